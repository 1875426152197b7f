use Rattle.std.proofs.Common.{◌≡◌, ◌≤◌, ◌<◌, ◌-◌, ℕ, length, get_or}
use Rattle.first_pass_tree.proofs.Common.{map_from, shallower, depths}
use Rattle.first_pass_tree.proofs.node_list.lower.Given as goal

abbrev pub invariant-loop-next : goal.invariant-loop-next
invariant-loop-next l = record {
  same : map_from shallower l.next l.nodes.items ≡ map_from shallower l.from l.initial.nodes.items;
  deep : (k : ℕ) → l.next ≤ k → k < length l.nodes.items → 0 < get_or (depths l.nodes.items) k 0;
}

abbrev pub decreases-loop-next : goal.decreases-loop-next
decreases-loop-next l = length l.nodes.items - l.next
