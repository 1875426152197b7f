use Rattle.std.proofs.Common.{◌≡◌, ◌≤◌, ◌-◌, length}
use Rattle.first_pass_lists.specs.Titles.{first_other}
use Rattle.first_pass_lists.proofs.titles.first_other.Given as goal

abbrev pub invariant-loop-index : goal.invariant-loop-index
invariant-loop-index l = record {
  within : l.index ≤ length l.nodes;
  same : first_other l.depth l.index l.nodes ≡ first_other l.depth l.from l.nodes;
}

abbrev pub decreases-loop-index : goal.decreases-loop-index
decreases-loop-index l = length l.nodes - l.index
