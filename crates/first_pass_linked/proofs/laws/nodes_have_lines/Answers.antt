use Rattle.first_pass_linked.proofs.BlockLines.{lines_found}
use Rattle.first_pass_linked.proofs.laws.nodes_have_lines.Goals as goal

pub returns : goal.returns
returns c = lines_found
