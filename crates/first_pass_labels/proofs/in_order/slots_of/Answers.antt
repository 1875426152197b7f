use Rattle.std.proofs.Common.{◌≡◌, ap, map, subst, sym, ◌∙◌, All, Some, take_all, slice_get}
use Rattle.std.proofs.lemmas.List.Elements.{All-nil}
use Rattle.first_pass_labels.proofs.OrderLemmas.{slots_more}
use Rattle.first_pass_labels.proofs.in_order.slots_of.Goals as goal

pub loop-at-init : goal.loop-at-init
loop-at-init g c = record {
  all = ap (map (λ s. s.0)) c.in_ok-slots.ensures.items;
  placed = subst (All (λ s. slice_get c.args.entries.now s.1 ≡ Some s.0)) (sym c.in_ok-slots.ensures.items)
      (All-nil (λ s. slice_get c.args.entries.now s.1 ≡ Some s.0));
}

pub loop-at-preserved : goal.loop-at-preserved
loop-at-preserved g c =
    let more = slots_more c.args.entries.now c.loop-at.at c.index-entries-at.result c.loop-at.slots.items _ c.new.result c.loop-at-test.true
    c.in_ok-push.ensures.items (c.new.ensures ∙ ap (λ e. (e, c.loop-at.at)) c.index-entries-at.is) c.loop-at.invariant.all c.loop-at.invariant.placed in
    record { all = more.0; placed = more.1 }

pub returns-clause-all : goal.returns-clause-all
returns-clause-all g c = c.loop-at.invariant.all ∙ take_all c.loop-at.at c.args.entries.now c.loop-at-test.false

pub returns-clause-placed : goal.returns-clause-placed
returns-clause-placed g c = c.loop-at.invariant.placed
