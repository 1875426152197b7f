use Rattle.first_pass_inline.proofs.Unique.{only}
use Rattle.first_pass_inline.proofs.laws.one_sequence.Goals as goal

pub returns : goal.returns
returns c = only
