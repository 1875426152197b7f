use Rattle.std.proofs.Common.{◌≡◌, ◌≤◌, ◌+◌, ◌-◌}
use Rattle.first_pass_lines.specs.Rest.{after_columns, indent}
use Rattle.first_pass_scan.proofs.line_start.LineStart.take_columns.Given as goal

abbrev pub invariant-loop-taken : goal.invariant-loop-taken
invariant-loop-taken l = record {
  within : l.taken ≤ l.n;
  rest : after_columns (l.n - l.taken) l.self ≡ after_columns l.n l.initial.self;
  columns : l.taken + indent l.self ≡ indent l.initial.self;
}

abbrev pub decreases-loop-taken : goal.decreases-loop-taken
decreases-loop-taken l = l.n - l.taken
