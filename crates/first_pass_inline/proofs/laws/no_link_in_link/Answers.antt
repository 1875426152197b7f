use Rattle.first_pass_inline.proofs.Flat.{flat}
use Rattle.first_pass_inline.proofs.laws.no_link_in_link.Goals as goal

pub returns : goal.returns
returns c = flat
