use Rattle.std.proofs.Common.{◌≡◌, ◌≤◌, length}
use Rattle.first_pass_tree.proofs.Common.{depths, last_before}
use Rattle.first_pass_tree.proofs.node_list.last_of_depth.Given as goal

abbrev pub invariant-loop-index : goal.invariant-loop-index
invariant-loop-index l = record {
  within : l.index ≤ length l.nodes;
  same : last_before (depths l.nodes) l.depth l.index ≡ last_before (depths l.nodes) l.depth (length l.nodes);
}

abbrev pub decreases-loop-index : goal.decreases-loop-index
decreases-loop-index l = l.index
