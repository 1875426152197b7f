use Rattle.std.proofs.Common.{arith}
use Rattle.first_pass_places.proofs.InfoFacts.{info_found}
use Rattle.first_pass_places.proofs.info_string.info_range.Goals as goal

pub returns-clause-value : goal.returns-clause-value
returns-clause-value c = grind (arith, info_found)
