use Rattle.std.proofs.Common.{◌≡◌, ◌≤◌, ◌-◌, ◌++◌, length, take, drop}
use Rattle.first_pass_tree.proofs.Common.{cut_tokens}
use Rattle.first_pass_tree.proofs.node_list.cut_nodes.Given as goal

abbrev pub invariant-loop-kept : goal.invariant-loop-kept
invariant-loop-kept l = record {
  within : l.kept ≤ length l.nodes.items;
  same : take l.kept l.nodes.items ++ cut_tokens l.end l.depth (drop l.kept l.nodes.items)
      ≡ take l.first l.initial.nodes.items ++ cut_tokens l.end l.depth (drop l.first l.initial.nodes.items);
}

abbrev pub decreases-loop-kept : goal.decreases-loop-kept
decreases-loop-kept l = length l.nodes.items - l.kept
