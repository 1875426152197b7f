use Rattle.std.proofs.Common.{length, ◌-◌, ◌≤◌}
use Rattle.first_pass_inline.specs.Open.{IsBefore}
use Rattle.first_pass_inline.proofs.walk.marks_of.Given as goal

abbrev pub invariant-loop-at : goal.invariant-loop-at
invariant-loop-at l = record { before : IsBefore l.chain l.walk l.at; within : l.at.index ≤ length l.chain.tokens }

abbrev pub decreases-loop-at : goal.decreases-loop-at
decreases-loop-at l = length l.chain.tokens - l.at.index
