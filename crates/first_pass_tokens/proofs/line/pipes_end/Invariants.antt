use Rattle.std.proofs.Common.{◌≡◌, ℕ, ◌-◌, ◌<◌, ◌≤◌, true, length}
use Rattle.first_pass_tokens.proofs.Common.{is_near_pipe}
use Rattle.first_pass_tokens.proofs.line.pipes_end.Given as goal

-- the bytes up to here are near pipes
abbrev pub invariant-loop-end : goal.invariant-loop-end
invariant-loop-end l = record {
  some : l.at < l.«end»;
  within : l.«end» ≤ length l.text;
  pipes : (k : ℕ) → l.at ≤ k → k < l.«end» → is_near_pipe l.text k ≡ true;
}

abbrev pub decreases-loop-end : goal.decreases-loop-end
decreases-loop-end l = length l.text - l.«end»
