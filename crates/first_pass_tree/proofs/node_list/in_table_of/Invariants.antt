use Rattle.std.proofs.Common.{◌≡◌, ◌≤◌, length, take, reverse}
use Rattle.first_pass_tree.proofs.Common.{depths, in_table, IsOpenPath}
use Rattle.first_pass_tree.proofs.node_list.in_table_of.Given as goal

abbrev pub invariant-loop-left : goal.invariant-loop-left
invariant-loop-left l = record {
  within : l.left ≤ length l.spine;
  same : in_table l.nodes (reverse (take l.left l.spine)) ≡ in_table l.nodes (reverse l.spine);
  open_path : IsOpenPath (depths l.nodes) (reverse (take l.left l.spine));
}

abbrev pub decreases-loop-left : goal.decreases-loop-left
decreases-loop-left l = l.left
