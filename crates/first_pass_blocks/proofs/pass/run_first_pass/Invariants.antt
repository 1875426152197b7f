use Rattle.std.proofs.Common.{◌-◌, ◌≤◌, length}
use Rattle.first_pass_blocks.proofs.Common.{KnowsNext}
use Rattle.first_pass_blocks.proofs.BlockRead.{IsReadUpTo}
use Rattle.first_pass_blocks.proofs.pass.run_first_pass.Given as goal

abbrev pub invariant-loop-ix : goal.invariant-loop-ix
invariant-loop-ix l = record {
  read : IsReadUpTo l.text l.fn.options l.pass l.ix;
  within : l.part_end ≤ length l.text;
  last : l.part_end ≤ l.ix → length l.text ≤ l.part_end;
}

abbrev pub decreases-loop-ix : goal.decreases-loop-ix
decreases-loop-ix l = length l.text - l.ix

abbrev pub invariant-loop-ix-2 : goal.invariant-loop-ix-2
invariant-loop-ix-2 l = IsReadUpTo l.text l.fn.options l.pass l.ix

abbrev pub decreases-loop-ix-2 : goal.decreases-loop-ix-2
decreases-loop-ix-2 l = length l.text - l.ix

abbrev pub invariant-loop-pass : goal.invariant-loop-pass
invariant-loop-pass l = record {
  read : IsReadUpTo l.text l.fn.options l.pass l.ix;
  front : KnowsNext l.pass l.ix;
  later : l.initial.ix ≤ l.ix;
}

abbrev pub decreases-loop-pass : goal.decreases-loop-pass
decreases-loop-pass l = length l.text - l.ix
