use Rattle.first_pass_places.proofs.FootnoteTables.{same_footnotes}
use Rattle.first_pass_places.proofs.laws.footnotes_have_nodes.Goals as goal

pub returns : goal.returns
returns c = same_footnotes
