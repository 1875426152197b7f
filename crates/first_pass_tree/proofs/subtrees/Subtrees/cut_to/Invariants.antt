use Rattle.std.proofs.Common.{◌≡◌, ◌≤◌, length, take, reverse}
use Rattle.first_pass_tree.specs.Subtrees.{within_first}
use Rattle.first_pass_tree.proofs.subtrees.Subtrees.cut_to.Given as goal

-- the records from `kept` on end after the first nodes
abbrev pub invariant-loop-kept : goal.invariant-loop-kept
invariant-loop-kept l = record {
  within : l.kept ≤ length l.self-inside.list.items;
  left : within_first l.count (reverse l.self-inside.list.items) ≡ within_first l.count (reverse (take l.kept l.self-inside.list.items));
}

abbrev pub decreases-loop-kept : goal.decreases-loop-kept
decreases-loop-kept l = l.kept
