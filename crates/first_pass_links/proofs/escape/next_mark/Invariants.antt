use Rattle.std.proofs.Common.{◌≡◌, ℕ, ◌<◌, ◌≤◌, ◌-◌, length, get_or, true}
use Rattle.first_pass_links.specs.Plain.{is_unmarked}
use Rattle.first_pass_links.proofs.escape.next_mark.Given as goal

abbrev pub invariant-loop-at : goal.invariant-loop-at
invariant-loop-at l = record {
  within : l.at ≤ length l.bytes;
  none : (k : ℕ) → k < l.at → is_unmarked (get_or l.bytes k 0) ≡ true;
}

abbrev pub decreases-loop-at : goal.decreases-loop-at
decreases-loop-at l = length l.bytes - l.at

abbrev pub invariant-loop-at-2 : goal.invariant-loop-at-2
invariant-loop-at-2 l = record {
  within : l.at ≤ length l.bytes;
  none : (k : ℕ) → k < l.at → is_unmarked (get_or l.bytes k 0) ≡ true;
}

abbrev pub decreases-loop-at-2 : goal.decreases-loop-at-2
decreases-loop-at-2 l = length l.bytes - l.at
