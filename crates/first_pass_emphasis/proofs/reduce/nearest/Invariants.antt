use Rattle.std.proofs.Common.{◌≡◌, ℕ, ◌≤◌, false, length, slice_get, Some}
use Rattle.first_pass_emphasis.specs.declared.reduce.Entry.{Entry}
use Rattle.first_pass_emphasis.specs.Stacks.{Fits}
use Rattle.first_pass_emphasis.proofs.reduce.nearest.Given as goal

abbrev pub invariant-loop-at : goal.invariant-loop-at
invariant-loop-at l = record {
  within : l.at ≤ length l.stack;
  above : (k : ℕ) (e : Entry) → l.at ≤ k → slice_get l.stack k ≡ Some e → Fits e l.run l.more ≡ false;
}

abbrev pub decreases-loop-at : goal.decreases-loop-at
decreases-loop-at l = l.at
