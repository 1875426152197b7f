use Rattle.std.proofs.Common.{◌≤◌, ℕ, ◌+◌, ◌-◌, length, drop}
use Rattle.first_pass_html.specs.Fronts.{IsPastAttributes}
use Rattle.first_pass_html.proofs.tags.scan_attributes.Given as goal

-- the bytes up to here are attributes, before those that begin here
abbrev pub invariant-loop-len : goal.invariant-loop-len
invariant-loop-len l = record {
  within : l.at ≤ length l.bytes;
  past : (a : ℕ) → IsPastAttributes (drop l.at l.bytes) a → IsPastAttributes l.bytes (l.at + a);
}

abbrev pub decreases-loop-len : goal.decreases-loop-len
decreases-loop-len l = length l.bytes - l.at
