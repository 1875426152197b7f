use Rattle.std.proofs.Common.{ap, ap₂, sym, refl, ◌∙◌, take_all, slice_get, option_copied}
use Rattle.first_pass_labels.specs.LabelTables.{table_of, after_label, lesser_of, with_all}
use Rattle.first_pass_labels.proofs.SortedLemmas.{least_taken, least_left}
use Rattle.first_pass_labels.proofs.in_order.least_after.Goals as goal
use Rattle.first_pass_labels.proofs.in_order.least_after.Goals.{then-comes_after, else-comes_after}

pub loop-at-init : goal.loop-at-init
unfolding with_all
loop-at-init g c = refl

pub loop-at-preserved : goal.loop-at-preserved
loop-at-preserved g c =
    let last = option_copied c.args.last in
    let es = c.args.entries.now in
    elim c.if-comes_after.branch [
      | then-comes_after w ↦
          ap option_copied w.least-is ∙ w.lesser-least.ensures
          ∙ ap₂ lesser_of c.loop-at.invariant w.index-entries-at-then-comes_after.is
          ∙ sym (least_taken last es c.loop-at.at c.index-entries-at.result c.loop-at-test.true w.index-entries-at-then-comes_after.result
          (sym c.comes_after.ensures ∙ w.if-comes_after.true))
      | else-comes_after w ↦
          ap option_copied w.least-is ∙ c.loop-at.invariant
          ∙ sym (least_left last es c.loop-at.at c.index-entries-at.result c.loop-at-test.true (sym c.comes_after.ensures ∙ w.if-comes_after.false))
    ]

pub returns : goal.returns
returns g c = c.loop-at.invariant
    ∙ ap (λ l. slice_get (table_of (after_label (option_copied c.args.last) l)) 0) (take_all c.loop-at.at c.args.entries.now c.loop-at-test.false)
