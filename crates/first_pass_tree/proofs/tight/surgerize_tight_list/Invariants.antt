use Rattle.first_pass_tree.proofs.TightLemmas.{IsTightFrom}
use Rattle.first_pass_tree.proofs.tight.surgerize_tight_list.Given as goal

-- the paragraphs from `at` on are tight
abbrev pub invariant-loop-at : goal.invariant-loop-at
invariant-loop-at l = IsTightFrom l.initial.tree l.fn.list_ix.0 l.list_depth l.at l.tree

abbrev pub decreases-loop-at : goal.decreases-loop-at
decreases-loop-at l = l.at
