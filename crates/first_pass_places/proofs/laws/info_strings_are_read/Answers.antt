use Rattle.first_pass_places.proofs.InfoFacts.{fenced_is_read}
use Rattle.first_pass_places.proofs.laws.info_strings_are_read.Goals as goal

pub returns : goal.returns
returns c = fenced_is_read
