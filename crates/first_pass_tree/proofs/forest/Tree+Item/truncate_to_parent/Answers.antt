use Rattle.std.proofs.Common.{◌+◌, arith}
use Rattle.first_pass_tree.proofs.Common.{length-reverse}
use Rattle.first_pass_tree.proofs.Keeps.{end-known}
use Rattle.first_pass_tree.proofs.Moves.{rest-moves}
use Rattle.first_pass_tree.proofs.forest.Tree+Item.truncate_to_parent.Goals as goal

pub move_from-requires : goal.move_from-requires
move_from-requires c = grind (arith, length-reverse, end-known, rest-moves)
