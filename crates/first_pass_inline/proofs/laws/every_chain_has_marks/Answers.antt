use Rattle.first_pass_inline.proofs.Found.{marked}
use Rattle.first_pass_inline.proofs.laws.every_chain_has_marks.Goals as goal

pub returns : goal.returns
returns c = marked
