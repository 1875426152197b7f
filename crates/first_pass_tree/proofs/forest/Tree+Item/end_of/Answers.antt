use Rattle.std.proofs.Common.{arith}
use Rattle.first_pass_tree.proofs.Common.{end_of}
use Rattle.first_pass_tree.proofs.Keeps.{current-end, depth_at, end-known}
use Rattle.first_pass_tree.proofs.forest.Tree+Item.end_of.Goals as goal

pub returns-in-Some : goal.returns-in-Some
returns-in-Some c = grind (arith, current-end)

pub returns-in_default : goal.returns-in_default
returns-in_default c = grind (arith, end-known, depth_at)
