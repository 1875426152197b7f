use Rattle.std.proofs.Common.{◌≡◌, ℕ, suc, ◌-◌, ◌<◌, List, [], ◌∷◌, length, refl, sym, ap, subst, ◌∙◌, arith}
use Rattle.first_pass_grammar.proofs.Common.{TreeIndex}
use Rattle.first_pass_containers.proofs.Common.{PassState, popped_whole, closed_none, closed_one, popped_spine, KeepsState}
use Rattle.first_pass_lists.specs.Closing.{popped}
use Rattle.first_pass_containers.specs.Entering.{all_popped}
use Rattle.first_pass_containers.proofs.OrderSteps.{state_kept, kept_both, popped_kept}
use Rattle.first_pass_containers.proofs.containers.close_containers.Goals as goal

one_less : (at n : ℕ) (r : PassState) (spine : List TreeIndex) → r.tree.spine ≡ spine → length spine ≡ suc n → length (popped at r).tree.spine ≡ n
one_less at n r [] is size = absurd (omega arith)
one_less at n r (ix ∷ rest) is size = let left = ap length (popped_spine at r ix rest is) in omega arith

-- one of the open nodes that are to be closed is closed, and one less is left
one_popped : (kept at : ℕ) (r : PassState) → kept < length r.tree.spine
    → all_popped (length (popped at r).tree.spine - kept) at (popped at r) ≡ all_popped (length r.tree.spine - kept) at r
unfolding all_popped
one_popped kept at r more =
    let n : ℕ = length r.tree.spine - 1 in
    let less : length (popped at r).tree.spine ≡ n = one_less at n r r.tree.spine refl (omega arith) in
    let size : length r.tree.spine - kept ≡ suc (n - kept) = omega arith in
    ap (λ k. all_popped (k - kept) at (popped at r)) less ∙ sym (ap (λ k. all_popped k at r) size)

none_popped : (n at : ℕ) (r : PassState) → n ≡ 0 → all_popped n at r ≡ r
unfolding all_popped
none_popped n at r none = ap (λ k. all_popped k at r) none

pub loop-state-init : goal.loop-state-init
loop-state-init c = grind (arith, closed_none, state_kept)

pub loop-state-preserved : goal.loop-state-preserved
loop-state-preserved c =
    let i = c.loop-state.invariant in
    let n = c.spine_len.ensures in
    let more = c.loop-state-test.true in
    let one = closed_one _ _ _ c.args.kept c.args.ix c.recall_forest.ensures c.pop.ensures (omega arith) i.closed in
    record {
      value = ap (λ (q : PassState). all_popped (length q.tree.spine - c.args.kept) c.args.ix q) c.pop.ensures
          ∙ one_popped c.args.kept c.args.ix _ (omega arith) ∙ i.value;
      closed = one.0;
      kept = subst (λ (q : PassState). KeepsState c.args.state.now q c.args.ix) (sym c.pop.ensures) (kept_both _ _ _ c.args.ix i.kept
          (popped_kept c.args.ix _ (λ names h. popped_whole names c.args.ix _ c.recall_forest.ensures h)));
      all_kept = λ all. (let none = ap (λ (q : PassState). length q.tree.spine) (i.all_kept all) in absurd (omega arith));
    }

pub loop-state-smaller : goal.loop-state-smaller
loop-state-smaller c = grind (arith, closed_one)

pub returns-clause-value : goal.returns-clause-value
returns-clause-value c = grind (arith, none_popped)
