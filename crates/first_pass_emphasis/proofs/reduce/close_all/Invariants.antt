use Rattle.std.proofs.Common.{List}
use Rattle.first_pass_emphasis.specs.declared.role.Role.{Role}
use Rattle.first_pass_emphasis.specs.Pieces.{Pieces}
use Rattle.first_pass_emphasis.specs.Stacks.{IsAt}
use Rattle.first_pass_emphasis.proofs.Runs.{IsClosing}
use Rattle.first_pass_emphasis.proofs.reduce.close_all.Given as goal

abbrev pub invariant-loop-more : goal.invariant-loop-more
invariant-loop-more l = record {
  closing : (p : Pieces) (rest : List Role) → IsAt p l.run.size rest l.fn.at l.fn.pass → IsClosing p rest l.run l.more l.at l.pass;
}

abbrev pub decreases-loop-more : goal.decreases-loop-more
decreases-loop-more l = l.more
