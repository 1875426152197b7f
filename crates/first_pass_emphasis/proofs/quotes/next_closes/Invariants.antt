use Rattle.std.proofs.Common.{◌≡◌, length}
use Rattle.first_pass_emphasis.specs.Stacks.{next_closes}
use Rattle.first_pass_emphasis.proofs.quotes.next_closes.Given as goal

abbrev pub invariant-loop-placed : goal.invariant-loop-placed
invariant-loop-placed l = next_closes l.quotes ≡ next_closes l.rest

abbrev pub decreases-loop-placed : goal.decreases-loop-placed
decreases-loop-placed l = length l.rest
