use Rattle.std.proofs.Common.{◌∙◌, sym, length, arith}
use Rattle.first_pass_tree.proofs.Common.{depths}
use Rattle.first_pass_tree.proofs.Keeps.{open-seen}
use Rattle.first_pass_tree.proofs.SubtreeLemmas.{subtrees-added, subtrees-dropped}
use Rattle.first_pass_tree.proofs.forest.Tree+Item.remember.Goals as goal

pub overflow_add-ix : goal.overflow_add-ix
overflow_add-ix c =
    let w = open-seen _ _ c.in-Some.ix c.self.view_is (sym c.peek_up.ensures ∙ c.in-Some.is) c.self.invariant.forest in omega arith

pub invariant_of-self : goal.invariant_of-self
invariant_of-self c =
    let ns = c.self.inside.nodes.items in
    let w = open-seen _ _ c.in-Some.ix c.self.view_is (sym c.peek_up.ensures ∙ c.in-Some.is) c.self.invariant.forest in
    record {
      forest = c.self.invariant.forest;
      known = subtrees-added (depths ns) (length ns) c.in-Some.ix.0 _ _ c.in_ok-add.ensures.ok w c.self.invariant.known;
    }

pub invariant_of-self-in_err-add : goal.invariant_of-self-in_err-add
invariant_of-self-in_err-add c =
    let ns = c.self.inside.nodes.items in
    let w = open-seen _ _ c.in-Some.ix c.self.view_is (sym c.peek_up.ensures ∙ c.in-Some.is) c.self.invariant.forest in
    record {
      forest = c.self.invariant.forest;
      known = subtrees-dropped (depths ns) (length ns) c.in-Some.ix.0 _ _ c.in_err-add.ensures.err w c.self.invariant.known;
    }
