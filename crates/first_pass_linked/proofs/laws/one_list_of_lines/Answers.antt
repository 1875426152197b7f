use Rattle.std.proofs.Common.{sym, ◌∙◌}
use Rattle.first_pass_linked.proofs.BlockLines.{lines_are}
use Rattle.first_pass_linked.proofs.laws.one_list_of_lines.Goals as goal

pub returns : goal.returns
returns c = λ s nodes lines others are also. sym (lines_are s nodes lines are) ∙ lines_are s nodes others also
