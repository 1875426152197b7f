use Rattle.std.proofs.Common.{◌≡◌, ◌-◌, length}
use Rattle.first_pass_containers.proofs.Common.{ClosedSoFar, all_popped, KeepsState}
use Rattle.first_pass_containers.proofs.containers.close_containers.Given as goal

-- the others are not yet closed
abbrev pub invariant-loop-state : goal.invariant-loop-state
invariant-loop-state l = record {
  value : all_popped (length l.state.tree.spine - l.kept) l.ix l.state
      ≡ all_popped (length l.initial.state.tree.spine - l.kept) l.ix l.initial.state;
  closed : ClosedSoFar l.initial.state l.state l.kept l.ix;
  kept : KeepsState l.initial.state l.state l.ix;
  all_kept : l.kept ≡ length l.initial.state.tree.spine → l.state ≡ l.initial.state;
}

abbrev pub decreases-loop-state : goal.decreases-loop-state
decreases-loop-state l = length l.state.tree.spine
