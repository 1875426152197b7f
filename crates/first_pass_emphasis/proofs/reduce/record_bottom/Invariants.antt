use Rattle.std.proofs.Common.{◌≡◌, length}
use Rattle.first_pass_emphasis.proofs.reduce.record_bottom.Given as goal

abbrev pub invariant-loop-i : goal.invariant-loop-i
invariant-loop-i l = record {
  items : l.bottoms.items ≡ l.fn.bottoms.items;
  all : l.i-end ≡ length l.fn.bottoms.items;
}
