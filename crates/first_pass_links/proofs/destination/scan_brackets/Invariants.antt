use Rattle.std.proofs.Common.{◌-◌, length}
use Rattle.first_pass_links.specs.Destinations.{ends_bracketed}
use Rattle.first_pass_links.proofs.Destinations.{HasPassed}
use Rattle.first_pass_links.proofs.destination.scan_brackets.Given as goal

-- no byte before this offset ends the text
abbrev pub invariant-loop-at : goal.invariant-loop-at
invariant-loop-at l = HasPassed ends_bracketed l.bytes l.at

abbrev pub decreases-loop-at : goal.decreases-loop-at
decreases-loop-at l = length l.bytes - l.at
