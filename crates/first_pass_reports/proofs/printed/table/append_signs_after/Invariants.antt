use Rattle.std.proofs.Common.{◌≡◌, ◌++◌, take}
use Rattle.first_pass_reports.specs.Printed.{signs_after}
use Rattle.first_pass_reports.proofs.printed.table.append_signs_after.Given as goal

-- the signs so far are written
abbrev pub invariant-loop-alignment : goal.invariant-loop-alignment
invariant-loop-alignment l = l.line.items ≡ l.initial.line.items ++ signs_after (take l.alignment-index l.alignments)
