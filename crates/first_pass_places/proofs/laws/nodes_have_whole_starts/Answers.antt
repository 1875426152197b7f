use Rattle.first_pass_places.proofs.DerivedNodes.{derived_marks}
use Rattle.first_pass_places.proofs.laws.nodes_have_whole_starts.Goals as goal

pub returns : goal.returns
returns c = derived_marks
