use Rattle.first_pass_places.proofs.DerivedNodes.{derived_marks}
use Rattle.first_pass_places.proofs.RangeBoundaries.{names_between}
use Rattle.first_pass_places.proofs.laws.names_have_whole_characters.Goals as goal

pub returns : goal.returns
returns c d nodes tables derives u = names_between d.text nodes u (derived_marks d nodes tables derives)
