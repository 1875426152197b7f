use Rattle.std.proofs.Common.{◌-◌, length}
use Rattle.first_pass_links.proofs.Destinations.{HasPassed}
use Rattle.first_pass_grammar.specs.Definitions.{ends_title}
use Rattle.first_pass_targets.proofs.title.title_len.Given as goal

-- no byte before this offset ends the title
abbrev pub invariant-loop-at : goal.invariant-loop-at
invariant-loop-at l = HasPassed (ends_title l.close) l.bytes l.at

abbrev pub decreases-loop-at : goal.decreases-loop-at
decreases-loop-at l = length l.bytes - l.at
