use Rattle.std.proofs.Common.{◌≡◌, ◌+◌}
use Rattle.first_pass_tokens.proofs.Common.{run_tokens, with_tokens}
use Rattle.first_pass_tokens.proofs.line.append_run.Given as goal

-- appending the remaining tokens to the tree gives the first tree with all of them
abbrev pub invariant-loop-left : goal.invariant-loop-left
invariant-loop-left l =
    (with_tokens l.tree (run_tokens l.next l.left l.opens l.closes) ≡ with_tokens l.initial.tree (run_tokens l.at l.n l.opens l.closes))
    × (l.next + l.left ≡ l.at + l.n)

abbrev pub decreases-loop-left : goal.decreases-loop-left
decreases-loop-left l = l.left
