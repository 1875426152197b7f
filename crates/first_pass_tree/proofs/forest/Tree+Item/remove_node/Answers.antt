use Rattle.std.proofs.Common.{ap, arith, length, ◌+◌, ◌∙◌, reverse, ◌∷◌, []}
use Rattle.first_pass_tree.proofs.Common.{depths, reverse-append}
use Rattle.first_pass_tree.proofs.Keeps.{closed-is, opened-within}
use Rattle.first_pass_tree.proofs.SubtreeLemmas.{subtrees-first, subtrees-cut}
use Rattle.first_pass_tree.proofs.forest.Tree+Item.remove_node.Goals as goal

pub invariant_of-self-2 : goal.invariant_of-self-2
invariant_of-self-2 c =
    let ns = c.self.inside.nodes.items in
    let rest = c.pop.new.self.items in
    let e = ap reverse c.in_ok-emptied.ensures.items ∙ reverse-append rest (c.in_ok-emptied.emptied ∷ []) in
    let w = opened-within _ c.in_ok-emptied.emptied (reverse rest) e c.self.invariant.forest in
    record {
      forest = rw c.truncate.ensures.items
          (closed-is _ c.in_ok-emptied.emptied (reverse rest) e c.self.invariant.forest);
      known = subtrees-cut ns c.truncate.new.self.items (c.in_ok-emptied.emptied.0 + 1) _ (omega arith) c.truncate.ensures.items
          (subtrees-first (depths ns) (length ns) _ _ _ c.cut_to.ensures c.self.invariant.known);
    }
