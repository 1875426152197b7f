use Rattle.std.proofs.Common.{◌≤◌, ◌-◌, length}
use Rattle.first_pass_scan.proofs.LeafFacts.{IsFront}
use Rattle.first_pass_scan.proofs.leaf_scan.calc_indent.Given as goal

abbrev pub invariant-loop-at : goal.invariant-loop-at
invariant-loop-at l = record {
  tab : l.tab_start ≤ l.at;
  bound : l.columns ≤ l.max;
  front : IsFront l.bytes l.at l.columns (l.at - l.tab_start);
}

abbrev pub decreases-loop-at : goal.decreases-loop-at
decreases-loop-at l = length l.bytes - l.at
