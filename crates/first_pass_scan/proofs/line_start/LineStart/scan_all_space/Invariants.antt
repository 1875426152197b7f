use Rattle.std.proofs.Common.{◌≡◌}
use Rattle.first_pass_lines.specs.Rest.{Rest, after_columns, indent}
use Rattle.first_pass_scan.proofs.line_start.LineStart.scan_all_space.Given as goal

pub record IsKept (initial r : Rest) : Type 0 where
  pub none : r.owed ≡ 0
  pub all : after_columns (indent r) r ≡ after_columns (indent initial) initial

abbrev pub invariant-loop : goal.invariant-loop
invariant-loop l = IsKept l.initial.self l.self

abbrev pub decreases-loop : goal.decreases-loop
decreases-loop l = indent l.self

abbrev pub invariant-loop-2 : goal.invariant-loop-2
invariant-loop-2 l = IsKept l.initial.self l.self

abbrev pub decreases-loop-2 : goal.decreases-loop-2
decreases-loop-2 l = indent l.self
