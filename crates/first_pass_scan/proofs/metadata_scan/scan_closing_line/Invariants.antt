use Rattle.std.proofs.Common.{◌≡◌, ◌≤◌, ◌-◌, length}
use Rattle.first_pass_scan.specs.MetadataSearch.{closing_line_from}
use Rattle.first_pass_scan.proofs.metadata_scan.scan_closing_line.Given as goal

abbrev pub invariant-loop-at : goal.invariant-loop-at
invariant-loop-at l = record {
  within : l.at ≤ length l.text;
  rest : closing_line_from l.byte l.text l.at ≡ closing_line_from l.byte l.text l.from;
}

abbrev pub decreases-loop-at : goal.decreases-loop-at
decreases-loop-at l = length l.text - l.at
