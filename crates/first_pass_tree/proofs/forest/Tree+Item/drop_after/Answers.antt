use Rattle.std.proofs.Common.{arith, sym, subst, ◌≡◌, ◌+◌, ◌<◌, length, get_or}
use Rattle.first_pass_tree.proofs.Common.{Forest, IsChild, depths, Item, length-reverse}
use Rattle.first_pass_tree.proofs.Keeps.{end-known, kept_after-is, run-within}
use Rattle.first_pass_tree.proofs.SubtreeLemmas.{subtrees-first, subtrees-cut}
use Rattle.first_pass_tree.proofs.forest.Tree+Item.drop_after.Goals as goal

pub invariant_of-self : goal.invariant_of-self
invariant_of-self c =
    let ns = c.self.inside.nodes.items in
    let at = c.args.ix.0 in
    let q = subst (λ (v : Forest Item). IsChild v c.args.ix) (sym c.self.view_is) c.requires in
    let w : at < length ns = q.within in
    let d : c.len.result + 1 ≡ get_or (depths ns) at 0 = omega (arith, q.depth, length-reverse c.self.inside.spine.items) in
    let e = end-known ns _ at c.deeper_end-end.result _ c.deref.ensures.value d c.deeper_end-end.ensures in
    record {
      forest = rw (c.truncate.ensures.items, e) (kept_after-is _ c.args.ix q c.self.invariant.forest);
      known = subtrees-cut ns c.truncate.new.self.items c.deeper_end-end.result _
          (rw e (run-within ns (get_or (depths ns) at 0) (at + 1) (omega arith))) c.truncate.ensures.items
          (subtrees-first (depths c.self.inside.nodes.items) (length c.self.inside.nodes.items) _ _ _ c.cut_to.ensures c.self.invariant.known);
    }
