use Rattle.std.proofs.Common.{◌≡◌, ◌+◌, ◌≤◌, length, take}
use Rattle.std.specs.List.{suffix_len}
use Rattle.first_pass_attributes.specs.AttributeBlocks.{is_inside_block}
use Rattle.first_pass_attributes.proofs.attrs.scan_near_inside_block.Given as goal

abbrev pub invariant-loop-at : goal.invariant-loop-at
invariant-loop-at l = record {
  within : l.at ≤ length l.bytes;
  rest : l.at + suffix_len is_inside_block l.bytes ≡ length l.bytes + suffix_len is_inside_block (take l.at l.bytes);
}

abbrev pub decreases-loop-at : goal.decreases-loop-at
decreases-loop-at l = l.at
