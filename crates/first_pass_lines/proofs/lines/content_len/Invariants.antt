use Rattle.std.proofs.Common.{◌≡◌, ℕ, ◌<◌, ◌≤◌, ◌-◌, get_or, true}
use Rattle.first_pass_lines.proofs.Common.{is_content}
use Rattle.first_pass_lines.proofs.lines.content_len.Given as goal

abbrev pub invariant-loop-from : goal.invariant-loop-from
invariant-loop-from l = record {
  within : l.from ≤ l.near;
  none : (k : ℕ) → k < l.from → is_content (get_or l.bytes k 0) ≡ true;
}

abbrev pub decreases-loop-from : goal.decreases-loop-from
decreases-loop-from l = l.near - l.from
