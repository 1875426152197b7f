use Rattle.std.proofs.Common.{arith, ap, length, refl, rules}
use Rattle.first_pass_inline.proofs.Steps.{at_end, begins, ends}
use Rattle.first_pass_inline.proofs.walk.marks_of.Goals as goal

pub loop-at-init : goal.loop-at-init
loop-at-init c = record { before = begins c.args.chain.now _ (search rules) (search rules) refl refl refl refl (search rules); within = omega arith }

pub returns : goal.returns
returns c = ends c.args.chain.now c.loop-at.walk c.loop-at.at c.loop-at.invariant.before
    (at_end c.args.chain.now c.loop-at.at (omega (arith, ap length c.tokens.ensures)))
