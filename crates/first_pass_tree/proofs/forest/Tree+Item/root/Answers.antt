use Rattle.first_pass_tree.proofs.Keeps.{root-within}
use Rattle.first_pass_tree.proofs.forest.Tree+Item.root.Goals as goal

pub returns-clause-within : goal.returns-clause-within
returns-clause-within c = rw (← c.self.view_is) (root-within _ c.self.invariant.forest)
