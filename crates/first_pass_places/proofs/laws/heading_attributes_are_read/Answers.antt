use Rattle.first_pass_places.proofs.HeadingPlaces.{heading_is_read}
use Rattle.first_pass_places.proofs.laws.heading_attributes_are_read.Goals as goal

pub returns : goal.returns
returns c = heading_is_read
