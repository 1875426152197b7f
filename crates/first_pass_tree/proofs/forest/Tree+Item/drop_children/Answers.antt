use Rattle.std.proofs.Common.{arith, ◌+◌}
use Rattle.first_pass_tree.proofs.Keeps.{childless-is, open-seen}
use Rattle.first_pass_tree.proofs.SubtreeLemmas.{subtrees-first, subtrees-cut}
use Rattle.first_pass_tree.proofs.forest.Tree+Item.drop_children.Goals as goal

pub overflow_add-ix : goal.overflow_add-ix
overflow_add-ix c =
    let w = open-seen _ _ c.args.ix c.self.view_is c.requires c.self.invariant.forest in omega arith

pub overflow_add-ix-2 : goal.overflow_add-ix-2
overflow_add-ix-2 c =
    let w = open-seen _ _ c.args.ix c.self.view_is c.requires c.self.invariant.forest in omega arith

pub invariant_of-self : goal.invariant_of-self
invariant_of-self c = grind (arith, open-seen, childless-is, subtrees-cut, subtrees-first)
