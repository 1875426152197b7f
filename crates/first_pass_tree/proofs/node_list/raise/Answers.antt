use Rattle.std.proofs.Common.{◌<◌, ◌^◌, arith, sym, ◌∙◌}
use Rattle.first_pass_tree.proofs.Common.{deeper}
use Rattle.first_pass_tree.proofs.Keeps.{map_from-next, map_from-end, set-keeps}
use Rattle.first_pass_tree.proofs.node_list.raise.Goals as goal

pub loop-next-preserved : goal.loop-next-preserved
loop-next-preserved c = record {
  same = map_from-next deeper c.loop-next.nodes.items c.loop-next.next c.index_mut-node.result.now (omega arith) c.index_mut-node.ensures.value
      ∙ c.loop-next.invariant.same;
  small = set-keeps (λ depth. depth < 2 ^ 63) c.loop-next.nodes.items c.loop-next.next _ c.loop-next.invariant.small;
}

pub returns : goal.returns
returns c = sym (map_from-end deeper c.loop-next.nodes.items c.loop-next.next (omega arith)) ∙ c.loop-next.invariant.same
