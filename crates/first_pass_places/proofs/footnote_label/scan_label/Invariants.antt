use Rattle.std.proofs.Common.{◌-◌, length}
use Rattle.first_pass_grammar.proofs.Common.{is_bracket}
use Rattle.first_pass_links.proofs.Destinations.{HasPassed}
use Rattle.first_pass_places.proofs.footnote_label.scan_label.Given as goal

-- no bracket before this offset ends the label
abbrev pub invariant-loop-at : goal.invariant-loop-at
invariant-loop-at l = HasPassed is_bracket l.bytes l.at

abbrev pub decreases-loop-at : goal.decreases-loop-at
decreases-loop-at l = length l.bytes - l.at
