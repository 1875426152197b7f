use Rattle.std.proofs.Common.{◌<◌, arith, sym, ◌∙◌}
use Rattle.first_pass_tree.proofs.Common.{shallower}
use Rattle.first_pass_tree.proofs.Keeps.{map_from-next, map_from-end, set-keeps}
use Rattle.first_pass_tree.proofs.node_list.lower.Goals as goal

pub loop-next-preserved : goal.loop-next-preserved
loop-next-preserved c = record {
  same = map_from-next shallower c.loop-next.nodes.items c.loop-next.next c.index_mut-node.result.now (omega arith) c.index_mut-node.ensures.value
      ∙ c.loop-next.invariant.same;
  deep = set-keeps (λ depth. 0 < depth) c.loop-next.nodes.items c.loop-next.next _ c.loop-next.invariant.deep;
}

pub returns : goal.returns
returns c = sym (map_from-end shallower c.loop-next.nodes.items c.loop-next.next (omega arith)) ∙ c.loop-next.invariant.same
