use Rattle.std.proofs.Common.{◌≡◌, ◌≤◌, length}
use Rattle.first_pass_scan.specs.TableHead.{delimiter_cells}
use Rattle.first_pass_scan.proofs.TableFacts.{found_before}
use Rattle.first_pass_scan.proofs.table_scan.scan_delimiter_cells.Given as goal

abbrev pub invariant-loop-column : goal.invariant-loop-column
invariant-loop-column l = record {
  within : length l.rest ≤ length l.bytes;
  same : found_before l.columns.items (delimiter_cells l.rest) ≡ delimiter_cells l.bytes;
}

abbrev pub decreases-loop-column : goal.decreases-loop-column
decreases-loop-column l = length l.rest
