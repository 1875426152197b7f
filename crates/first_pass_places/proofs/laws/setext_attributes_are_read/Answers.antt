use Rattle.first_pass_places.proofs.HeadingPlaces.{text_is_read}
use Rattle.first_pass_places.proofs.laws.setext_attributes_are_read.Goals as goal

pub returns : goal.returns
returns c = text_is_read
