use Rattle.std.proofs.Common.{◌≡◌, ◌∙◌, ap, length, arith}
use Rattle.first_pass_tree.proofs.Common.{depths}
use Rattle.first_pass_tree.specs.Subtrees.{ended}
use Rattle.first_pass_tree.proofs.SubtreeLemmas.{current-subtree, subtrees-ended}
use Rattle.first_pass_tree.proofs.forest.Tree+Item.note_end.Goals as goal

pub invariant_of-self : goal.invariant_of-self
invariant_of-self c =
    let ns = c.self.inside.nodes.items in
    let ix = c.in-Some.ix in
    let l : c.len.result ≡ length ns = omega arith in
    let e = c.note_end.ensures ∙ ap (λ n. ended ix.0 n c.self.inside.subtrees) l in
    let s = current-subtree _ ix c.in-Some.is c.self.invariant.forest in
    record {
      forest = c.self.invariant.forest;
      known = subtrees-ended (depths ns) (length ns) ix.0 (length ns) _ _ e s c.self.invariant.known;
    }
