use Rattle.std.proofs.Common.{◌≡◌, ◌-◌, ◌≤◌, length, drop}
use Rattle.first_pass_html.specs.Ends.{holds_raw_end_tag}
use Rattle.first_pass_html.proofs.ends.holds_raw_end_tag.Given as goal

-- no end tag begins before this byte
abbrev pub invariant-loop-before : goal.invariant-loop-before
invariant-loop-before l = record {
  within : l.from ≤ length l.bytes;
  none : holds_raw_end_tag l.bytes ≡ holds_raw_end_tag (drop l.from l.bytes);
}

abbrev pub decreases-loop-before : goal.decreases-loop-before
decreases-loop-before l = length l.bytes - l.from
