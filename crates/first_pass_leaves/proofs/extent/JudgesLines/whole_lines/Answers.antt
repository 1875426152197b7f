use Rattle.first_pass_leaves.proofs.WholeLines.{none_whole}
use Rattle.first_pass_leaves.proofs.extent.JudgesLines.whole_lines.Goals as goal

pub returns : goal.returns
returns g c = none_whole _ _ _ _
