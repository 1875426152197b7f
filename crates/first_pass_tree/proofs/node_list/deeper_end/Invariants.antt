use Rattle.std.proofs.Common.{◌≡◌, ◌-◌, ◌≤◌, length}
use Rattle.first_pass_tree.proofs.Common.{depths, run_end}
use Rattle.first_pass_tree.proofs.node_list.deeper_end.Given as goal

abbrev pub invariant-loop-end : goal.invariant-loop-end
invariant-loop-end l = record {
  within : l.end ≤ length l.nodes;
  same : run_end (depths l.nodes) l.depth l.end ≡ run_end (depths l.nodes) l.depth l.fn.from;
}

abbrev pub decreases-loop-end : goal.decreases-loop-end
decreases-loop-end l = length l.nodes - l.end
