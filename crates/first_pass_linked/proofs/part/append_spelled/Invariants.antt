use Rattle.std.proofs.Common.{◌≡◌, ◌++◌, length}
use Rattle.first_pass_links.specs.Labels.{single_spaced}
use Rattle.first_pass_linked.proofs.part.append_spelled.Given as goal

-- the label so far, and its rest
abbrev pub invariant-loop-byte : goal.invariant-loop-byte
invariant-loop-byte l = l.line.items ++ single_spaced l.rest ≡ l.initial.line.items ++ single_spaced l.label

abbrev pub decreases-loop-byte : goal.decreases-loop-byte
decreases-loop-byte l = length l.rest
