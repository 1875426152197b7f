use Rattle.std.proofs.Common.{arith}
use Rattle.first_pass_places.proofs.LineColumnSteps.{at_start}
use Rattle.first_pass_places.proofs.LineTableMarks.{all_marks, no_marks}
use Rattle.first_pass_places.proofs.line_table.marks_of.Goals as goal

pub loop-at-init : goal.loop-at-init
loop-at-init c = no_marks c.args.text.now c.in_ok-marks.marks.items _ c.in_ok-marks.ensures.items (at_start c.args.text.now)

pub returns : goal.returns
returns c =
    all_marks c.args.text.now c.loop-at.marks.items _ c.loop-at.at c.loop-at.place c.in_ok-push-2.ensures.items c.loop-at.invariant (omega arith)
