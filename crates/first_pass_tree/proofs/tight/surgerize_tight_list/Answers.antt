use Rattle.std.proofs.Common.{ℕ, ◌+◌, ◌<◌, List, slice_index, subst, arith}
use Rattle.first_pass_tree.proofs.TightLemmas.{tight_from_depths, walk_begins, walk_within, walk_deeper, walk_over, walk_next}
use Rattle.first_pass_tree.proofs.tight.surgerize_tight_list.Goals as goal

pub overflow_add-first : goal.overflow_add-first
overflow_add-first c = omega (arith, c.end_of-at.ensures)

pub loop-at-init : goal.loop-at-init
loop-at-init c = walk_begins c.args.tree.now c.args.list_ix.0 _ _ c.requires c.depth_at-list_depth.ensures c.end_of-at.ensures

pub inner_list-inner-requires : goal.inner_list-inner-requires
inner_list-inner-requires c = (c.loop-at-test.true, walk_within c.args.tree.now c.loop-at.tree _ _ _ c.loop-at.invariant)

pub tighten_between-requires-clause-within : goal.tighten_between-requires-clause-within
tighten_between-requires-clause-within c = grind (arith, walk_within)

pub tighten_between-requires-clause-deeper : goal.tighten_between-requires-clause-deeper
tighten_between-requires-clause-deeper c = grind (arith, walk_deeper)

pub tighten-requires-clause-within : goal.tighten-requires-clause-within
tighten-requires-clause-within c = grind (arith, walk_over, walk_within)

pub tighten-requires-clause-deeper : goal.tighten-requires-clause-deeper
tighten-requires-clause-deeper c = grind (arith, walk_over, walk_deeper)

pub loop-at-preserved : goal.loop-at-preserved
loop-at-preserved c =
    let f = c.args.tree.now in
    let n = c.inner_list-inner in
    let w = n.ensures.within in
    let i = walk_over f _ _ _ c.args.list_ix.0 _ _ n.result.past c.loop-at.invariant (omega arith, w.2) n.ensures.tree c.tighten_between.ensures in
    let s = tight_from_depths f c.loop-at.tree _ _ c.loop-at.invariant.tight in
    walk_next f c.tighten_between.new.tree c.tighten.new.tree _ _ n.result.place n.result.past i (omega arith) w.1
    (λ k a b. subst (λ (ds : List ℕ). c.depth_at-list_depth.result + 2 < slice_index ds k) s (n.ensures.deeper k a b)) c.tighten.ensures
