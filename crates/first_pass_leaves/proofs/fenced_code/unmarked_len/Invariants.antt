use Rattle.std.proofs.Common.{◌≡◌, ℕ, ◌<◌, ◌≤◌, ◌-◌, get_or, length, true}
use Rattle.first_pass_leaves.proofs.Common.{is_unmarked}
use Rattle.first_pass_leaves.proofs.fenced_code.unmarked_len.Given as goal

abbrev pub invariant-loop-from : goal.invariant-loop-from
invariant-loop-from l = record {
  within : l.from ≤ length l.bytes;
  none : (k : ℕ) → k < l.from → is_unmarked l.fence_byte (get_or l.bytes k 0) ≡ true;
}

abbrev pub decreases-loop-from : goal.decreases-loop-from
decreases-loop-from l = length l.bytes - l.from
