use Rattle.std.proofs.Common.{◌-◌, arith, take_all}
use Rattle.first_pass_tree.proofs.SubtreeLemmas.{first-fewer, first-stop}
use Rattle.first_pass_tree.proofs.subtrees.Subtrees.cut_to.Goals as goal
use Rattle.first_pass_tree.proofs.subtrees.Subtrees.cut_to.Goals.{then-loop-kept-test+else-count-index, else-loop-kept-test}

pub loop-kept-init : goal.loop-kept-init
loop-kept-init c = grind (arith, take_all)

pub index-requires : goal.index-requires
index-requires c = omega (arith, c.loop-kept.invariant.within)

pub loop-kept-preserved : goal.loop-kept-preserved
loop-kept-preserved c = grind (arith, first-fewer)

pub returns : goal.returns
returns c = grind (arith, then-loop-kept-test+else-count-index, first-stop, else-loop-kept-test)
