use Rattle.std.proofs.Common.{sym, ◌∙◌, arith}
use Rattle.first_pass_tree.proofs.Keeps.{run_more, run_stop}
use Rattle.first_pass_tree.proofs.node_list.deeper_end.Goals as goal

pub loop-end-preserved : goal.loop-end-preserved
loop-end-preserved c = grind (arith, run_more)

pub returns-else-depth-nodes : goal.returns-else-depth-nodes
returns-else-depth-nodes c = sym (run_stop _ _ _ _ c.loop-end-test.true c.if-depth-nodes.false) ∙ c.loop-end.invariant.same
