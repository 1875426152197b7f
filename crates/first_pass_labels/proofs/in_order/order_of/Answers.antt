use Rattle.std.proofs.Common.{ap, arith, map, sym, subst, ◌∙◌, take_all}
use Rattle.first_pass_labels.specs.LabelTables.{table_of, IsOrderOf}
use Rattle.first_pass_labels.proofs.OrderLemmas.{indices_more, order_is}
use Rattle.first_pass_labels.proofs.in_order.order_of.Goals as goal

pub loop-at-init : goal.loop-at-init
loop-at-init g c = c.in_ok-order.ensures.items

pub loop-at-preserved : goal.loop-at-preserved
loop-at-preserved g c =
    indices_more c.dedup.new.self.items c.loop-at.at c.index.result.now c.loop-at.order.items c.push.new.self.items c.index-in-loop-at.result
    (omega (arith, c.loop-at-test.true, c.len-at-end.ensures, c.dedup.new.self.ok.0)) c.in_ok-push.ensures.items
    (c.index-in-loop-at.ensures ∙ ap (λ s. s.1) c.index.ensures) c.loop-at.invariant

pub returns : goal.returns
returns g c =
    let es = c.args.entries.now in
    subst (λ o. IsOrderOf o es (table_of es))
    (sym (c.loop-at.invariant ∙ ap (λ l. map (λ s. s.1) l) (take_all c.loop-at.at c.dedup.new.self.items
    (omega (arith, c.loop-at-test.false, c.len-at-end.ensures, c.dedup.new.self.ok.0)))))
    (order_is es c.in_ok-slots.slots.items c.sort.new.self.items c.dedup.new.self.items c.in_ok-slots.ensures.all c.in_ok-slots.ensures.placed
    c.in_ok-sort.ensures.permutation c.in_ok-sort.ensures.sorted c.in_ok-sort.ensures.stable c.dedup.ensures.filtered)
