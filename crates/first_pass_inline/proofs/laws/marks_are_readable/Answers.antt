use Rattle.first_pass_inline.proofs.Readable.{marks_readable}
use Rattle.first_pass_inline.proofs.laws.marks_are_readable.Goals as goal

pub returns : goal.returns
returns c = marks_readable
