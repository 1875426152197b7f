use Rattle.std.proofs.Common.{◌≡◌, ℕ, ◌+◌, ◌-◌, sym, arith}
use Rattle.first_pass_attributes.proofs.BreakFacts.{top-low, after-break, after-none, before-kept}
use Rattle.first_pass_attributes.proofs.attrs.scan_inside_block.Goals as goal

pub overflow_sub-result : goal.overflow_sub-result
overflow_sub-result c =
    let low = top-low c.block_breaks-breaks.result c.ilog2.result c.block_breaks-breaks.ensures.within c.ilog2.ensures.power_le c.ilog2.ensures.next_power_gt in
    omega (arith, low, c.loop-at-test.true, c.loop-at.invariant.within)

pub returns-then-breaks-ne0-clause-value : goal.returns-then-breaks-ne0-clause-value
returns-then-breaks-ne0-clause-value c =
    let at : ℕ = c.loop-at.at - 16 in
    let back : at + 16 ≡ c.loop-at.at = omega (arith, c.loop-at-test.true) in
    sym (after-break c.args.bytes.now at c.block_breaks-breaks.result c.block_breaks-breaks.ensures.breaks
    (λ k from. c.loop-at.invariant.inside k (omega (arith, back, from))) c.ilog2.result (omega (arith, back, c.loop-at.invariant.within))
    c.block_breaks-breaks.ensures.within c.ilog2.ensures.power_le c.ilog2.ensures.next_power_gt)

pub loop-at-preserved : goal.loop-at-preserved
loop-at-preserved c =
    let at : ℕ = c.loop-at.at - 16 in
    let back : at + 16 ≡ c.loop-at.at = omega (arith, c.loop-at-test.true) in
    record {
      within = omega (arith, c.loop-at.invariant.within);
      inside = after-none c.args.bytes.now at c.block_breaks-breaks.result c.block_breaks-breaks.ensures.breaks
          (λ k from. c.loop-at.invariant.inside k (omega (arith, back, from))) c.if-breaks-ne0.false;
    }

pub returns-clause-value : goal.returns-clause-value
returns-clause-value c = grind (arith, before-kept)
