use Rattle.std.proofs.Common.{◌≡◌, ◌≤◌, ◌+◌, ◌-◌, length, drop}
use Rattle.first_pass_atoms.specs.TagLengths.{attributes_len}
use Rattle.first_pass_atoms.proofs.tags.scan_attributes.Given as goal

-- the bytes up to here are attributes, before those that begin here
abbrev pub invariant-loop-len : goal.invariant-loop-len
invariant-loop-len l = record {
  within : l.at ≤ length l.bytes;
  value : attributes_len l.bytes ≡ l.at + attributes_len (drop l.at l.bytes);
}

abbrev pub decreases-loop-len : goal.decreases-loop-len
decreases-loop-len l = length l.bytes - l.at
