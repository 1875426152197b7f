use Rattle.std.proofs.Common.{◌≡◌, ℕ, ◌-◌, ◌<◌, ◌≤◌, length, false}
use Rattle.first_pass_walk.proofs.Common.{is_marked}
use Rattle.first_pass_walk.proofs.walk.next_special_in_words.Given as goal

abbrev pub invariant-loop-next : goal.invariant-loop-next
invariant-loop-next l = record {
  from : l.fn.ix ≤ l.next;
  none : (k : ℕ) → l.fn.ix ≤ k → k < l.next → is_marked l.lut l.bytes k ≡ false;
}

abbrev pub decreases-loop-next : goal.decreases-loop-next
decreases-loop-next l = length l.bytes - l.next
