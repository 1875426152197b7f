use Rattle.std.proofs.Common.{◌≡◌, ℕ, min, nat_lt, ◌&&◌, ◌||◌, not, Bool, true, false, List, is_some, refl, ap, ◌∙◌, arith, if◌then◌else◌}
use Rattle.first_pass_grammar.proofs.Common.{nat_tests, on_err, at_line_end, Rest, indent, setext_underline, Continued, all_taken, interrupts, Context}
use Rattle.first_pass_kinds.proofs.Common.{interrupts_in, context_of, continued_to}
use Rattle.first_pass_grammar.specs.Definitions.{is_underline}
use Rattle.first_pass_kinds.proofs.interrupt.scan_definition_end.Goals as goal

-- a copy of a rest was read to the end of its indentation
read_as : (r s q : Rest) (columns : ℕ) → s ≡ r → columns ≡ min 4 (indent s) → q ≡ all_taken s
    → (nat_lt columns 4 ≡ nat_lt (indent r) 4) × (q.left ≡ (all_taken r).left)
read_as r s q columns same few rest = (grind (arith, nat_tests, few, same), ap (λ (z : Rest). z.left) (rest ∙ ap all_taken same))

interrupts_at : (around : Context) (how : Continued) (r : Rest) (columns : ℕ) (bs : List ℕ) → nat_lt columns 4 ≡ nat_lt (indent r) 4
    → bs ≡ (all_taken r).left → (if nat_lt columns 4 then interrupts_in around how bs else at_line_end bs) ≡ interrupts around how r
unfolding interrupts
interrupts_at around how r columns bs t f = rw (t, f) refl

underline_at : (r : Rest) (columns : ℕ) (bs : List ℕ) → nat_lt columns 4 ≡ nat_lt (indent r) 4 → bs ≡ (all_taken r).left
    → (nat_lt columns 4 && is_some (setext_underline bs)) ≡ is_underline r
underline_at r columns bs t f = rw (t, f) refl

-- The line interrupts a paragraph, so the definition ends before it.
ended_by : (said by_text by_line last : Bool) → said ≡ by_text → by_text ≡ by_line → said ≡ true → true ≡ by_line || last
ended_by said by_text by_line last e f g = grind (arith, e, f, g)

-- The line does not interrupt a paragraph, is read for a label, and does not continue all containers: then an underline
-- does not count, and the definition continues.
lazy_by : (said by_text by_line last in_label whole : Bool) → said ≡ by_text → by_text ≡ by_line → said ≡ false → (in_label && not whole) ≡ true
    → false ≡ by_line || (last && (not in_label || whole))
lazy_by said by_text by_line last in_label whole e f g h = grind (arith, e, f, g, h)

-- The line does not interrupt a paragraph, and an underline counts: the definition ends before the line if it is one.
whole_by : (said by_text by_line last found in_label whole : Bool) → said ≡ by_text → by_text ≡ by_line → said ≡ false
    → (in_label && not whole) ≡ false → found ≡ last → found ≡ by_line || (last && (not in_label || whole))
whole_by said by_text by_line last found in_label whole e f g h k = grind (arith, e, f, g, h, k)

pub returns-then-branch-clause-value : goal.returns-then-branch-clause-value
returns-then-branch-clause-value c =
    let w = read_as _ _ _ _ c.copy-text.ensures c.scan_indentation-columns.ensures.columns c.scan_indentation-columns.ensures.rest in
    ended_by _ _ _ _ c.in_ok-scan_paragraph_end.ensures.value
    (interrupts_at (context_of c.args.source.now.options c.args.tree.now) (continued_to c.args.source.now.options c.args.tree.now c.args.front.now.continued)
    c.args.front.now.rest _ _ w.0 w.1) c.if-branch.true

pub returns-then-is_lazy_in_label-clause-value : goal.returns-then-is_lazy_in_label-clause-value
returns-then-is_lazy_in_label-clause-value c =
    let w = read_as _ _ _ _ c.copy-text.ensures c.scan_indentation-columns.ensures.columns c.scan_indentation-columns.ensures.rest in
    lazy_by _ _ _ _ _ _ c.in_ok-scan_paragraph_end.ensures.value
    (interrupts_at (context_of c.args.source.now.options c.args.tree.now) (continued_to c.args.source.now.options c.args.tree.now c.args.front.now.continued)
    c.args.front.now.rest _ _ w.0 w.1) c.if-branch.false c.if-is_lazy_in_label.true

pub returns-clause-value : goal.returns-clause-value
returns-clause-value c =
    let w = read_as _ _ _ _ c.copy-text.ensures c.scan_indentation-columns.ensures.columns c.scan_indentation-columns.ensures.rest in
    whole_by _ _ _ _ _ _ _ c.in_ok-scan_paragraph_end.ensures.value
    (interrupts_at (context_of c.args.source.now.options c.args.tree.now) (continued_to c.args.source.now.options c.args.tree.now c.args.front.now.continued)
    c.args.front.now.rest _ _ w.0 w.1) c.if-branch.false c.if-is_lazy_in_label.false
    (c.is_underline.ensures ∙ underline_at c.args.front.now.rest _ _ w.0 (c.left.ensures ∙ w.1))

-- it fails only if a table may begin
pub returns-in_err-scan_paragraph_end-clause-err : goal.returns-in_err-scan_paragraph_end-clause-err
returns-in_err-scan_paragraph_end-clause-err c =
    let w = read_as _ _ _ _ c.copy-text.ensures c.scan_indentation-columns.ensures.columns c.scan_indentation-columns.ensures.rest in
    on_err c.from_residual.result (rw (← w.0, ← w.1) c.in_err-scan_paragraph_end.ensures.err)
