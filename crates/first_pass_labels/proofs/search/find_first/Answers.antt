use Rattle.std.proofs.Common.{◌+◌, Some, cond, ap, sym, refl, ◌∙◌, drop, get_or, is_eq, arith}
use Rattle.std.proofs.lemmas.List.{at_drop_more, drop_all, get_or_default}
use Rattle.std.specs.BTreeMap.{is_at}
use Rattle.std.specs.Map.{lookup}
use Rattle.first_pass_labels.specs.Foldings.{label_cmp}
use Rattle.first_pass_labels.proofs.search.find_first.Goals as goal

pub loop-at-init : goal.loop-at-init
loop-at-init g c = refl

pub returns-then-is_eq : goal.returns-then-is_eq
returns-then-is_eq g c =
    let test = is_at (label_cmp c.args.key.now) in
    let es = c.args.entries.now in
    let d = c.index-entries-at.result in
    ap (λ e. Some e.1) (get_or_default es c.loop-at.at c.index-entries-at-then-is_eq.result d c.loop-at-test.true)
    ∙ sym (c.loop-at.invariant ∙ at_drop_more (lookup test) es c.loop-at.at d c.loop-at-test.true
    ∙ ap (λ b. cond b (Some (get_or es c.loop-at.at d).1) (lookup test (drop (c.loop-at.at + 1) es)))
    (ap is_eq (sym c.cmp.ensures) ∙ sym c.is_eq.ensures ∙ c.if-is_eq.true))

pub loop-at-preserved : goal.loop-at-preserved
loop-at-preserved g c =
    let test = is_at (label_cmp c.args.key.now) in
    let es = c.args.entries.now in
    let d = c.index-entries-at.result in
    c.loop-at.invariant ∙ at_drop_more (lookup test) es c.loop-at.at d c.loop-at-test.true
    ∙ ap (λ b. cond b (Some (get_or es c.loop-at.at d).1) (lookup test (drop (c.loop-at.at + 1) es)))
    (ap is_eq (sym c.cmp.ensures) ∙ sym c.is_eq.ensures ∙ c.if-is_eq.false)

pub returns : goal.returns
returns g c = grind (arith, drop_all)
