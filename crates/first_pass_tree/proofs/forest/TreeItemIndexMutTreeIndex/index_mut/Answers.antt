use Rattle.std.proofs.Common.{refl}
use Rattle.first_pass_tree.proofs.Keeps.{modified-by, item-read}
use Rattle.first_pass_tree.proofs.SubtreeLemmas.{set-kept}
use Rattle.first_pass_tree.proofs.forest.TreeItemIndexMutTreeIndex.index_mut.Goals as goal

pub invariant_of-self-lent : goal.invariant_of-self-lent
invariant_of-self-lent c = λ w. set-kept _ _ c.args.ix.0 _ w c.index_mut-node.ensures.value c.self.invariant

pub returns : goal.returns
returns c = (
  (refl, λ w. modified-by _ _ c.args.ix.0 _ (λ _. w) c.self.view_is c.index_mut-node.ensures.value),
  record { writes_back = tt; value = item-read _ _ c.args.ix _ c.self.view_is c.requires c.index_mut-node.ensures.value },
)
