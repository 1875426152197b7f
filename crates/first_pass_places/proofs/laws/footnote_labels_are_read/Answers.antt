use Rattle.first_pass_places.proofs.FootnotePlaces.{footnote_is_read}
use Rattle.first_pass_places.proofs.laws.footnote_labels_are_read.Goals as goal

pub returns : goal.returns
returns c = footnote_is_read
