use Rattle.std.proofs.Common.{◌+◌, true, false, IsCharBoundary, refl, sym, ap, subst, ◌∙◌, arith}
use Rattle.first_pass_grammar.proofs.Common.{Rest, interrupts_row}
use Rattle.first_pass_open.specs.Path.{context_of}
use Rattle.first_pass_open.proofs.PlaceLemmas.{all_keep}
use Rattle.first_pass_tables.proofs.RowPlaces.{row_found}
use Rattle.first_pass_tables.proofs.rows.scan_row_text.Goals as goal

pub overflow_add-result : goal.overflow_add-result
overflow_add-result c =
    let i = all_keep c.args.source.now.text.now c.args.start c.in-Some.rest c.scan_continued.ensures.utf8 c.in-Some.ensures.place in
    let w = i.within in
    let e = ap (λ (r : Rest). c.args.start + r.taken) c.scan_all_space.ensures in
    let f = c.bytes_scanned.ensures in
    let s = c.recall_length.ensures in
    omega arith

pub returns-then-interrupts_rows-clause-value : goal.returns-then-interrupts_rows-clause-value
returns-then-interrupts_rows-clause-value c =
    row_found c.args.source.now.text.now (context_of c.args.source.now.options c.args.tree.now) c.args.start _ _ c.in-Some.rest true
    c.scan_continued.ensures.value c.in-Some.is refl (sym c.if-interrupts_rows.true
    ∙ c.interrupts_rows.ensures ∙ ap (interrupts_row c.args.source.now.options) (c.left.ensures ∙ ap (λ (r : Rest). r.left) c.scan_all_space.ensures))

pub returns-clause-value : goal.returns-clause-value
returns-clause-value c =
    row_found c.args.source.now.text.now (context_of c.args.source.now.options c.args.tree.now) c.args.start _ _ c.in-Some.rest false
    c.scan_continued.ensures.value c.in-Some.is (ap (λ n. c.args.start + n) (c.bytes_scanned.ensures ∙ ap (λ (r : Rest). r.taken) c.scan_all_space.ensures))
    (sym c.if-interrupts_rows.false
    ∙ c.interrupts_rows.ensures ∙ ap (interrupts_row c.args.source.now.options) (c.left.ensures ∙ ap (λ (r : Rest). r.left) c.scan_all_space.ensures))

pub returns-clause-place : goal.returns-clause-place
returns-clause-place c =
    subst (IsCharBoundary c.args.source.now.text.now)
    (sym (ap (λ n. c.args.start + n) (c.bytes_scanned.ensures ∙ ap (λ (r : Rest). r.taken) c.scan_all_space.ensures)))
    (all_keep c.args.source.now.text.now c.args.start c.in-Some.rest c.scan_continued.ensures.utf8 c.in-Some.ensures.place).boundary
