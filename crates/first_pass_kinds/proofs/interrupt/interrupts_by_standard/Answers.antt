use Rattle.std.proofs.Common.{arith}
use Rattle.first_pass_kinds.proofs.FirstBytes.{item_plain}
use Rattle.first_pass_kinds.proofs.MarkBytes.{unmarked_interrupts}
use Rattle.first_pass_kinds.proofs.interrupt.interrupts_by_standard.Goals as goal

pub returns-then-begins_no_interruption_by_standard : goal.returns-then-begins_no_interruption_by_standard
returns-then-begins_no_interruption_by_standard c = grind (arith, unmarked_interrupts)

pub returns-then-begins_plain_item : goal.returns-then-begins_plain_item
returns-then-begins_plain_item c = grind (arith, item_plain)
