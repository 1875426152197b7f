use Rattle.first_pass_atoms.specs.HtmlEnds.{IsKnownOf}
use Rattle.scan_cases.proofs.atoms.append_each.Given as goal

-- the record is right
abbrev pub invariant-loop-place : goal.invariant-loop-place
invariant-loop-place l = IsKnownOf l.bytes l.ends
