use Rattle.std.proofs.Common.{◌-◌, length}
use Rattle.first_pass_places.proofs.LineTableMarks.{MarksTo}
use Rattle.first_pass_places.proofs.line_table.marks_of.Given as goal

-- the marks before the offset are there
abbrev pub invariant-loop-at : goal.invariant-loop-at
invariant-loop-at l = MarksTo l.text l.marks.items l.at l.place

abbrev pub decreases-loop-at : goal.decreases-loop-at
decreases-loop-at l = length l.text - l.at
