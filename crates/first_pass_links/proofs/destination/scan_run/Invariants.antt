use Rattle.std.proofs.Common.{◌≡◌, ◌≤◌, ◌-◌, length, drop}
use Rattle.first_pass_links.specs.Destinations.{bare_len, longer}
use Rattle.first_pass_links.proofs.destination.scan_run.Given as goal

-- the length of the run is this offset plus the length of the rest
abbrev pub invariant-loop-at : goal.invariant-loop-at
invariant-loop-at l = record {
  within : l.at ≤ length l.bytes;
  nested : l.nesting ≤ l.at;
  shallow : l.nesting ≤ l.deepest;
  passed : longer l.at (bare_len l.deepest l.nesting 0 (drop l.at l.bytes)) ≡ bare_len l.deepest 0 0 l.bytes;
}

abbrev pub decreases-loop-at : goal.decreases-loop-at
decreases-loop-at l = length l.bytes - l.at
