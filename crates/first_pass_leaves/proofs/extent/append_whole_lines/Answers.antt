use Rattle.first_pass_leaves.proofs.WholeLines.{none_whole}
use Rattle.first_pass_leaves.proofs.extent.append_whole_lines.Goals as goal

pub returns-then-not-is_outermost_code-clause-whole : goal.returns-then-not-is_outermost_code-clause-whole
returns-then-not-is_outermost_code-clause-whole g c = none_whole _ _ _ _
