use Rattle.std.proofs.Common.{◌-◌, length}
use Rattle.first_pass_links.specs.Labels.{ends_line_label}
use Rattle.first_pass_links.proofs.Destinations.{HasPassed}
use Rattle.first_pass_links.proofs.label.scan_label_end.Given as goal

-- no byte before this offset ends the label
abbrev pub invariant-loop-at : goal.invariant-loop-at
invariant-loop-at l = HasPassed ends_line_label l.bytes l.at

abbrev pub decreases-loop-at : goal.decreases-loop-at
decreases-loop-at l = length l.bytes - l.at
