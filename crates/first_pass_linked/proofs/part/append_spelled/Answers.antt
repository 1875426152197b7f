use Rattle.first_pass_linked.proofs.Spelling.{all_spelled}
use Rattle.first_pass_linked.proofs.part.append_spelled.Goals as goal

pub returns : goal.returns
returns c = all_spelled c.loop-byte.line.items _ c.loop-byte.rest.now c.in_default.ensures.cases c.loop-byte.invariant
