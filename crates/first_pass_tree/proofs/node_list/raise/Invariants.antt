use Rattle.std.proofs.Common.{◌≡◌, ◌≤◌, ◌<◌, ◌^◌, ◌-◌, ℕ, length, get_or}
use Rattle.first_pass_tree.proofs.Common.{map_from, deeper, depths}
use Rattle.first_pass_tree.proofs.node_list.raise.Given as goal

abbrev pub invariant-loop-next : goal.invariant-loop-next
invariant-loop-next l = record {
  same : map_from deeper l.next l.nodes.items ≡ map_from deeper l.from l.initial.nodes.items;
  small : (k : ℕ) → l.next ≤ k → k < length l.nodes.items → get_or (depths l.nodes.items) k 0 < 2 ^ 63;
}

abbrev pub decreases-loop-next : goal.decreases-loop-next
decreases-loop-next l = length l.nodes.items - l.next
