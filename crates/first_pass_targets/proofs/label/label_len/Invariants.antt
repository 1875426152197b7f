use Rattle.std.proofs.Common.{◌-◌, length}
use Rattle.first_pass_links.specs.Labels.{is_bracket}
use Rattle.first_pass_links.proofs.Destinations.{HasPassed}
use Rattle.first_pass_targets.proofs.label.label_len.Given as goal

-- no byte before this offset ends the label
abbrev pub invariant-loop-at : goal.invariant-loop-at
invariant-loop-at l = HasPassed is_bracket l.bytes l.at

abbrev pub decreases-loop-at : goal.decreases-loop-at
decreases-loop-at l = length l.bytes - l.at
