use Rattle.first_pass_tree.proofs.TightLemmas.{IsTightening}
use Rattle.first_pass_tree.proofs.tight.tighten_between.Given as goal

abbrev pub invariant-loop-at : goal.invariant-loop-at
invariant-loop-at l = IsTightening l.initial.tree l.list_depth l.from l.to l.at l.tree

abbrev pub decreases-loop-at : goal.decreases-loop-at
decreases-loop-at l = l.at
