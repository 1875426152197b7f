use Rattle.std.proofs.Common.{◌≡◌, ℕ, ◌<◌, ◌≤◌, false}
use Rattle.first_pass_walk.proofs.Common.{is_marked}
use Rattle.first_pass_walk.proofs.walk.next_special.Given as goal

abbrev pub invariant-loop-at : goal.invariant-loop-at
invariant-loop-at l = (k : ℕ) → l.fn.ix ≤ k → k < l.at → is_marked l.lut l.bytes k ≡ false
