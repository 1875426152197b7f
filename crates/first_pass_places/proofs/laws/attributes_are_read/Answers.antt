use Rattle.first_pass_places.proofs.PlacedWords.{placed_attributes}
use Rattle.first_pass_places.proofs.laws.attributes_are_read.Goals as goal

pub returns : goal.returns
returns c = placed_attributes
