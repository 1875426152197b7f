use Rattle.std.proofs.Common.{◌≡◌}
use Rattle.first_pass_places.specs.LineColumns.{line_column}
use Rattle.first_pass_places.proofs.line_column.line_column_after.Given as goal

-- the place is that of the offset
abbrev pub invariant-loop-at : goal.invariant-loop-at
invariant-loop-at l = l.place ≡ line_column l.text l.at
