use Rattle.std.proofs.Common.{arith, sym, subst, ap, ◌∙◌, ◌≡◌, ◌+◌, ℕ, List, length, reverse, nat_lt, Option, Some, None, if◌then◌else◌}
use Rattle.first_pass_tree.proofs.Common.{TreeIndex, Forest, IsForest, open_place, depths, last_before, Item, length-map, length-reverse}
use Rattle.first_pass_tree.proofs.Cuts.{cut_siblings-is, siblings-by}
use Rattle.first_pass_tree.proofs.SubtreeLemmas.{subtrees-first, subtrees-joined}
use Rattle.first_pass_tree.proofs.Depths.{open-last}
use Rattle.first_pass_tree.proofs.forest.Tree+Item.cut_from.Goals as goal

pub cut_nodes-requires : goal.cut_nodes-requires
cut_nodes-requires c = grind (arith, open-last, length-map)

-- the last of these nodes at a depth, if any node is at an index or after it
abbrev last_from : ℕ → ℕ → List (ℕ × Item) → Option TreeIndex
last_from p d ns = if nat_lt p (length ns) then Some (record { 0 = last_before (depths ns) d (length ns) }) else None

pub invariant_of-self : goal.invariant_of-self
invariant_of-self c =
    let ns = c.self.inside.nodes.items in
    let f : Forest Item = record { nodes = ns; spine = reverse c.self.inside.spine.items; current = c.self.inside.cur } in
    let p = subst (λ (v : Forest Item). c.args.first ≡ open_place v.spine + 1) (sym c.self.view_is) c.requires in
    let d : c.len-depth.result + 1 ≡ length (reverse c.self.inside.spine.items) + 1 = omega (arith, length-reverse c.self.inside.spine.items) in
    let cur = c.last_child-self-inside.ensures ∙ ap (last_from c.args.first (c.len-depth.result + 1)) c.deref.ensures.value in
    let w = open-last (depths ns) (reverse c.self.inside.spine.items) c.self.invariant.forest.opened in
    record {
      forest = subst (λ (v : Forest Item). IsForest v) (sym (siblings-by f c.args.end _ _ _ _ p d c.cut_nodes.ensures cur))
          (cut_siblings-is f c.args.end c.self.invariant.forest);
      known = subtrees-joined ns c.cut_nodes.new.nodes.items _ c.args.first _ (omega (arith, w.within, length-map ns (λ n. n.0)))
          c.cut_nodes.ensures (subtrees-first (depths ns) (length ns) _ _ _ c.cut_to.ensures c.self.invariant.known);
    }
