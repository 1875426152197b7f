use Rattle.std.proofs.Common.{◌≡◌, ℕ, ◌+◌, ◌<◌, ◌≤◌, false}
use Rattle.first_pass_walk.proofs.Common.{is_marked}
use Rattle.first_pass_walk.proofs.walk.first_in_lanes.Given as goal

abbrev pub invariant-loop-lane : goal.invariant-loop-lane
invariant-loop-lane l = (k : ℕ) → l.fn.at ≤ k → k < l.fn.at + l.lane → is_marked l.lut l.bytes k ≡ false
