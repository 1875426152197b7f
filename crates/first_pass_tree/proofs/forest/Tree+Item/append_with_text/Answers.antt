use Rattle.std.proofs.Common.{◌≡◌, ◌+◌, ◌∷◌, ◌++◌, false, ℕ, List, Some, length, reverse, arith, ap, refl, sym, subst, ◌∙◌, []}
use Rattle.first_pass_tree.proofs.Common.{Forest, IsForest, Item, length-reverse, Text}
use Rattle.first_pass_tree.proofs.Keeps.{appended_by-is, below-is}
use Rattle.first_pass_tree.proofs.SubtreeLemmas.{subtrees-pushed}
use Rattle.first_pass_tree.proofs.forest.Tree+Item.append_with_text.Goals as goal

pub invariant_of-self-then-end-start : goal.invariant_of-self-then-end-start
invariant_of-self-then-end-start c = record {
  forest = appended_by-is _ c.args.item _ _ _ c.self.invariant.forest c.in_ok-push.ensures.items (omega (arith, length-reverse c.self.inside.spine.items))
      (omega arith);
  known = subtrees-pushed c.self.inside.nodes.items _ _ _ c.in_ok-push.ensures.items c.self.invariant.known;
}

pub invariant_of-self-2 : goal.invariant_of-self-2
invariant_of-self-2 c =
    let spine = reverse c.self.inside.spine.items in
    let f : Forest Item = record { nodes = c.push.new.self.items; spine = spine; current = Some (record { 0 = c.len.result }) } in
    let text : Item = record { start = c.args.start; «end» = c.args.end; body = Text false } in
    let long = length-reverse c.self.inside.spine.items in
    let first : IsForest f = appended_by-is _ c.args.item _ _ _ c.self.invariant.forest c.in_ok-push.ensures.items (omega (arith, long)) (omega arith) in
    let d : c.len-depth.result + 1 + 1 ≡ length spine + 2 = omega (arith, long) in
    record {
      forest = subst (λ (v : List (ℕ × Item)). IsForest (record f { nodes = v }))
          (sym (c.in_default.ensures.items ∙ ap (λ (e : ℕ). c.push.new.self.items ++ (e, text) ∷ []) d)) (below-is f _ text refl first);
      known = subtrees-pushed c.push.new.self.items _ _ _ c.in_default.ensures.items
          (subtrees-pushed c.self.inside.nodes.items _ _ _ c.in_ok-push.ensures.items c.self.invariant.known);
    }
