use Rattle.std.proofs.Common.{◌≡◌, ℕ, ◌+◌, false}
use Rattle.first_pass_walk.proofs.Common.{bit_at, is_marked}
use Rattle.first_pass_walk.proofs.walk.first_at_stops.Given as goal

-- the bit of each byte that is still to be tested is set
abbrev pub invariant-loop-left : goal.invariant-loop-left
invariant-loop-left l = record {
  within : (k : ℕ) → bit_at l.left k ≡ 1 → bit_at l.stops k ≡ 1;
  asked : (k : ℕ) → bit_at l.stops k ≡ 1 → bit_at l.left k ≡ 0 → is_marked l.lut l.bytes (l.«from» + k) ≡ false;
}

abbrev pub decreases-loop-left : goal.decreases-loop-left
decreases-loop-left l = l.left
