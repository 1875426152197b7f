use Rattle.std.proofs.Common.{◌-◌, ◌≡◌, ◌≤◌, drop, length}
use Rattle.first_pass_inline.specs.Look.{index_at}
use Rattle.first_pass_inline.proofs.chain.place_in.Given as goal

abbrev pub invariant-loop-next : goal.invariant-loop-next
invariant-loop-next l = record {
  from : l.index ≤ l.next;
  within : l.next ≤ length l.tokens;
  same : index_at (drop l.index l.tokens) l.index l.offset ≡ index_at (drop l.next l.tokens) l.next l.offset;
}

abbrev pub decreases-loop-next : goal.decreases-loop-next
decreases-loop-next l = length l.tokens - l.next
