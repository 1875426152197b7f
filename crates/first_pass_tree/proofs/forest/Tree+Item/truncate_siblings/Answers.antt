use Rattle.std.proofs.Common.{arith, sym, subst, ◌≡◌, ◌+◌, reverse, drop, true}
use Rattle.first_pass_tree.proofs.Common.{Forest, IsForest, is_single_before, open_place, Item}
use Rattle.first_pass_tree.proofs.Keeps.{spine-small}
use Rattle.first_pass_tree.proofs.Cuts.{cut_siblings-is, cut_siblings-single}
use Rattle.first_pass_tree.proofs.forest.Tree+Item.truncate_siblings.Goals as goal

pub first_place-first-requires : goal.first_place-first-requires
first_place-first-requires c = grind (arith, spine-small)

pub invariant_of-self : goal.invariant_of-self
invariant_of-self c =
    let f : Forest Item = record { nodes = c.self.inside.nodes.items; spine = reverse c.self.inside.spine.items; current = c.self.inside.cur } in
    let p : c.first_place-first.result ≡ open_place f.spine + 1 = cc in
    let t : is_single_before c.args.end (drop c.first_place-first.result f.nodes) ≡ true = cc in
    let e = cut_siblings-single f c.args.end _ c.self.invariant.forest p t in
    record {
      forest = subst (λ (v : Forest Item). IsForest v) (sym e) (cut_siblings-is f c.args.end c.self.invariant.forest);
      known = c.self.invariant.known;
    }

pub returns-then-is_single_before : goal.returns-then-is_single_before
returns-then-is_single_before c = grind (arith, cut_siblings-single)
