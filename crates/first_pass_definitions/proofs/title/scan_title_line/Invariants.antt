use Rattle.std.proofs.Common.{◌-◌, length}
use Rattle.first_pass_links.proofs.Destinations.{HasPassed}
use Rattle.first_pass_definitions.specs.Reading.{stops_title_line}
use Rattle.first_pass_definitions.proofs.title.scan_title_line.Given as goal

-- none of the bytes up to here stops the title
abbrev pub invariant-loop-at : goal.invariant-loop-at
invariant-loop-at l = HasPassed (stops_title_line l.close) l.bytes l.at

abbrev pub decreases-loop-at : goal.decreases-loop-at
decreases-loop-at l = length l.bytes - l.at
