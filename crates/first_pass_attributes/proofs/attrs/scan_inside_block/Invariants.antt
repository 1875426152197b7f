use Rattle.std.proofs.Common.{◌≡◌, ℕ, ◌≤◌, ◌<◌, length, get_or, true}
use Rattle.first_pass_attributes.specs.AttributeBlocks.{is_inside_block}
use Rattle.first_pass_attributes.proofs.attrs.scan_inside_block.Given as goal

abbrev pub invariant-loop-at : goal.invariant-loop-at
invariant-loop-at l = record {
  within : l.at ≤ length l.bytes;
  inside : (k : ℕ) → l.at ≤ k → k < length l.bytes → is_inside_block (get_or l.bytes k 0) ≡ true;
}

abbrev pub decreases-loop-at : goal.decreases-loop-at
decreases-loop-at l = l.at
