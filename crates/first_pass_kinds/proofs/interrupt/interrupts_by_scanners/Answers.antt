use Rattle.std.proofs.Common.{arith}
use Rattle.first_pass_kinds.proofs.MarkBytes.{tag_interrupts, mapped_some}
use Rattle.first_pass_kinds.proofs.interrupt.interrupts_by_scanners.Goals as goal

pub returns-then-begins : goal.returns-then-begins
returns-then-begins c = grind (arith, mapped_some, tag_interrupts)
