use Rattle.std.proofs.Common.{arith, ◌+◌}
use Rattle.first_pass_tree.proofs.Common.{length-reverse}
use Rattle.first_pass_tree.proofs.Moves.{moved_from-is, moved-by}
use Rattle.first_pass_tree.proofs.SubtreeLemmas.{subtrees-first, subtrees-changed}
use Rattle.first_pass_tree.proofs.forest.Tree+Item.move_from.Goals as goal

pub invariant_of-self : goal.invariant_of-self
invariant_of-self c = grind (arith, length-reverse, moved-by, moved_from-is, subtrees-changed, subtrees-first)
