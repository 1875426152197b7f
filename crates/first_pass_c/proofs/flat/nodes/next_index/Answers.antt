use Rattle.std.proofs.Common.{◌<◌, length, arith}
use Rattle.first_pass_c.proofs.Nexts.{next_passed, none_passed, some_here, first_passed}
use Rattle.first_pass_c.proofs.flat.nodes.next_index.Goals as goal

pub returns-then-later_depth-depth-clause-value : goal.returns-then-later_depth-depth-clause-value
returns-then-later_depth-depth-clause-value c = none_passed _ _ _ _ c.requires.later c.if-later_depth-depth.true

pub bounds-flat-from : goal.bounds-flat-from
bounds-flat-from c =
    let inside : c.args.from < length c.args.nodes.now = some_here _ _ _ _ c.requires.later c.if-later_depth-depth.false in
    let same = c.requires.same in
    omega arith

pub loop-at-init : goal.loop-at-init
loop-at-init c = first_passed _ _ _ _ _ _ c.requires.later c.if-later_depth-depth.false c.requires.same c.requires.linked

pub loop-at-preserved : goal.loop-at-preserved
loop-at-preserved c = (next_passed _ _ _ _ _ _ _ c.loop-at-test.true c.requires.same c.if-depth-nodes.true c.requires.linked c.loop-at.invariant).0

pub loop-at-smaller : goal.loop-at-smaller
loop-at-smaller c = (next_passed _ _ _ _ _ _ _ c.loop-at-test.true c.requires.same c.if-depth-nodes.true c.requires.linked c.loop-at.invariant).1
