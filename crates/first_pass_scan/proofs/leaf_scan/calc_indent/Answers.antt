use Rattle.std.proofs.Common.{arith}
use Rattle.first_pass_scan.proofs.LeafFacts.{front-longest}
use Rattle.first_pass_scan.proofs.leaf_scan.calc_indent.Goals as goal
use Rattle.first_pass_scan.proofs.leaf_scan.calc_indent.Goals.{then-width-eq0-via-then-width-eq0, then-width-eq0-via-else-width-eq0+then-max-columns}

pub returns-after-loop-at : goal.returns-after-loop-at
returns-after-loop-at c =
    front-longest c.args.bytes.now c.args.max c.loop-at.at c.loop-at.columns _ c.loop-at.invariant.front c.loop-at.invariant.bound
    (λ h w e some. absurd (omega arith))

pub returns-then-width-eq0 : goal.returns-then-width-eq0
returns-then-width-eq0 c =
    let bound = c.loop-at.invariant.bound in
    front-longest c.args.bytes.now c.args.max c.loop-at.at c.loop-at.columns _ c.loop-at.invariant.front bound (λ h w e some.
    elim c.then-width-eq0.branch [
      | then-width-eq0-via-then-width-eq0 v ↦ omega (arith, v.if-width-eq0, c.columns_of_blank-width.ensures)
      | then-width-eq0-via-else-width-eq0+then-max-columns v ↦ omega (arith, v.if-max-columns, c.columns_of_blank-width.ensures)
    ])
