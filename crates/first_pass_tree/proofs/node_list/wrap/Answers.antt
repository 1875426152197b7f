use Rattle.std.proofs.Common.{arith, add-one}
use Rattle.first_pass_tree.proofs.Keeps.{wrap-nodes, insert-small}
use Rattle.first_pass_tree.proofs.node_list.wrap.Goals as goal

pub raise-requires : goal.raise-requires
raise-requires c = rw (c.in_ok-insert.ensures.items, add-one) (insert-small c.args.nodes.now.items c.args.index _ (omega arith) c.requires.small)

pub returns-clause-ok : goal.returns-clause-ok
returns-clause-ok c = grind (arith, wrap-nodes)
