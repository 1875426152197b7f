use Rattle.first_pass_scan.specs.MetadataSearch.{IsKnownOf}
use Rattle.scan_cases.proofs.leaves.append_metadata.Given as goal

abbrev pub invariant-loop-place : goal.invariant-loop-place
invariant-loop-place l = IsKnownOf l.bytes l.ends
