use Rattle.first_pass_tree.proofs.Keeps.{modified-by}
use Rattle.first_pass_tree.proofs.SubtreeLemmas.{set-kept}
use Rattle.first_pass_tree.proofs.forest.Tree+Item.set_item.Goals as goal

pub invariant_of-self : goal.invariant_of-self
invariant_of-self c = set-kept _ _ c.args.ix.0 _ _ c.index_mut-node.ensures.value c.self.invariant

pub returns : goal.returns
returns c = modified-by _ _ c.args.ix.0 _ (λ _. c.args.item) c.self.view_is c.index_mut-node.ensures.value
