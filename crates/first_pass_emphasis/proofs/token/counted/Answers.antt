use Rattle.std.proofs.Common.{arith}
use Rattle.first_pass_emphasis.proofs.Marks.{counted_next, counted_past, counted_stops}
use Rattle.first_pass_emphasis.proofs.token.counted.Goals as goal

pub loop-size-preserved : goal.loop-size-preserved
loop-size-preserved c =
    let next = counted_next c.args.count c.loop-size.size _ c.args.marks.now _ c.loop-size-test.true c.if-size-marks.true c.count_of.ensures
    c.if-count_of-count.true in
    record {
      all = omega (arith, c.loop-size.invariant.all, next);
      below = omega (arith, c.loop-size-test.true);
      within = omega (arith, c.if-size-marks.true);
    }

pub returns-else-count_of-count-clause-value : goal.returns-else-count_of-count-clause-value
returns-else-count_of-count-clause-value c =
    let none = counted_stops c.args.count c.loop-size.size _ c.args.marks.now _ c.loop-size-test.true c.if-size-marks.true c.count_of.ensures
    c.if-count_of-count.false in
    omega (arith, c.loop-size.invariant.all, none)

pub returns-else-size-marks-clause-value : goal.returns-else-size-marks-clause-value
returns-else-size-marks-clause-value c =
    let none = counted_past c.args.count c.loop-size.size c.args.marks.now (omega (arith, c.if-size-marks.false)) in
    omega (arith, c.loop-size.invariant.all, none)
