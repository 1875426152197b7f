use Rattle.std.proofs.Common.{sym, ◌∙◌}
use Rattle.first_pass_open.proofs.BlockLemmas.{open_node_in}
use Rattle.first_pass.proofs.interrupt.is_in_text.Goals as goal

pub index-requires : goal.index-requires
index-requires c = open_node_in c.args.tree.now c.in-Some.ix c.recall_forest.ensures (sym c.peek_up.ensures ∙ c.in-Some.is)
