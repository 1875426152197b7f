use Rattle.std.proofs.Common.{◌-◌, arith}
use Rattle.first_pass_tree.proofs.SubtreeLemmas.{ended-set}
use Rattle.first_pass_tree.proofs.subtrees.Subtrees.note_end.Goals as goal

pub returns : goal.returns
returns c = grind (arith, ended-set)
