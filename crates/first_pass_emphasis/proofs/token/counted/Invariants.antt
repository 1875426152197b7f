use Rattle.std.proofs.Common.{◌≡◌, ◌+◌, ◌-◌, ◌≤◌, drop, length}
use Rattle.first_pass_emphasis.specs.Tokens.{counted}
use Rattle.first_pass_emphasis.proofs.token.counted.Given as goal

-- what is counted, and what is left to count
abbrev pub invariant-loop-size : goal.invariant-loop-size
invariant-loop-size l = record {
  all : counted l.fn.count l.marks ≡ l.size + counted (l.fn.count - l.size) (drop l.size l.marks);
  below : l.size ≤ l.fn.count;
  within : l.size ≤ length l.marks;
}

abbrev pub decreases-loop-size : goal.decreases-loop-size
decreases-loop-size l = l.fn.count - l.size
