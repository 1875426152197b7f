use Rattle.std.proofs.Common.{◌≡◌, ◌++◌, take, drop, map, length}
use Rattle.first_pass_emphasis.specs.Bottoms.{lowered}
use Rattle.first_pass_emphasis.proofs.reduce.lower.Given as goal

abbrev pub invariant-loop-i : goal.invariant-loop-i
invariant-loop-i l = record {
  items : l.bottoms.items ≡ map (lowered l.height) (take l.i l.fn.bottoms.items) ++ drop l.i l.fn.bottoms.items;
  all : l.i-end ≡ length l.fn.bottoms.items;
}
