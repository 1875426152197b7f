use Rattle.first_pass_inline.proofs.Unique.{only_marks}
use Rattle.first_pass_inline.proofs.laws.one_marking.Goals as goal

pub returns : goal.returns
returns c = only_marks
