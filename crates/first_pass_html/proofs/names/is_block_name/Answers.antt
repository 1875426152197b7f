use Rattle.std.proofs.Common.{arith}
use Rattle.std.proofs.lemmas.Bool.Decides.{same_from_decides}
use Rattle.first_pass_html.specs.Names.{is_block_name}
use Rattle.first_pass_html.proofs.LongestNames.{whole_name, no_name}
use Rattle.first_pass_html.proofs.StartFacts.{block_name_iff}
use Rattle.first_pass_html.proofs.names.is_block_name.Goals as goal

pub returns-then-len-gt0 : goal.returns-then-len-gt0
returns-then-len-gt0 c = grind (arith, whole_name, same_from_decides, block_name_iff)

pub returns-else-len-gt0 : goal.returns-else-len-gt0
returns-else-len-gt0 c = grind (arith, no_name, same_from_decides, block_name_iff)
