use Rattle.first_pass_emphasis.proofs.Nestings.{marks_nested}
use Rattle.first_pass_emphasis.proofs.laws.marks_are_nested.Goals as goal

pub returns : goal.returns
returns c = marks_nested
