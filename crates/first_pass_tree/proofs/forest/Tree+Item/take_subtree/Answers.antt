use Rattle.std.proofs.Common.{arith}
use Rattle.first_pass_tree.proofs.SubtreeLemmas.{subtrees-left, taken-is}
use Rattle.first_pass_tree.proofs.forest.Tree+Item.take_subtree.Goals as goal

pub invariant_of-self : goal.invariant_of-self
invariant_of-self c = grind (arith, subtrees-left)

pub returns-clause-within : goal.returns-clause-within
returns-clause-within c = taken-is _ c.args.from c.args.to _ _ c.take_between.ensures.value (λ e rest is a b. (a, b))

pub returns-clause-below : goal.returns-clause-below
returns-clause-below c = grind (arith, taken-is)
