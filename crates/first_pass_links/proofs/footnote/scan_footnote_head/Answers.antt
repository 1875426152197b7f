use Rattle.std.proofs.Common.{◌≡◌, ◌+◌, true, false, drop, refl, sym, ap, subst, ◌∙◌, arith, IsCharBoundary}
use Rattle.first_pass_items.specs.Bytes.{colon}
use Rattle.first_pass_items.proofs.ResultFacts.{on_err}
use Rattle.first_pass_lines.specs.Lines.{begins}
use Rattle.first_pass_links.specs.Footnotes.{begins_footnote_mark}
use Rattle.first_pass_links.specs.Labels.{CanErr}
use Rattle.first_pass_links.proofs.Parts.{of_text}
use Rattle.first_pass_links.proofs.Footnotes.{after_mark, further, no_mark, no_label, head_by, after_colon}
use Rattle.first_pass_links.proofs.footnote.scan_footnote_head.Goals as goal
use Rattle.first_pass_links.proofs.footnote.scan_footnote_head.Goals.{Else-not-begins_footnote_mark, After-begins}

pub returns-then-not-begins_footnote_mark-clause-value : goal.returns-then-not-begins_footnote_mark-clause-value
returns-then-not-begins_footnote_mark-clause-value g c = grind (arith, no_mark)

-- the text begins with `[^`
mark_is : (g : _) (c : Else-not-begins_footnote_mark g) → begins_footnote_mark c.args.text.now ≡ true
mark_is g c = ap begins_footnote_mark (sym c.as_bytes-bytes.ensures.value) ∙ sym c.begins_footnote_mark.ensures ∙ c.if-not-begins_footnote_mark.false

mark_place : (g : _) (c : Else-not-begins_footnote_mark g) → IsCharBoundary c.args.text.now 2
mark_place g c = after_mark c.args.text.now c.utf8.text (mark_is g c)

pub range_from-rest-requires : goal.range_from-rest-requires
range_from-rest-requires g c = λ h. mark_place g c

pub scan_link_label_rest-requires-clause-places : goal.scan_link_label_rest-requires-clause-places
scan_link_label_rest-requires-clause-places g c = λ following n at b e.
    let there = further c.args.text.now following.now c.range_from-rest.result.now at
    (mark_place g (goal.at.scan_link_label_rest-requires-clause-places g c).Else-not-begins_footnote_mark) c.range_from-rest.ensures.value b e in
    c.requires.places following n (2 + at) there.0 there.1

pub returns-in_default-clause-value : goal.returns-in_default-clause-value
returns-in_default-clause-value g c = λ prefix a.
    let before = (goal.at.returns-in_default-clause-value g c).Else-not-begins_footnote_mark in
    let k = rw c.in_default.is at c.in_ok-len.ensures.value prefix (λ following answer at b e.
    let there = further c.args.text.now following.now c.range_from-rest.result.now at (mark_place g before) c.range_from-rest.ensures.value b e in
    a following answer (2 + at) there.0 there.1) in
    let e = no_label prefix c.args.is_in_table c.args.text.now (mark_is g before)
    (rw c.range_from-rest.ensures.value at k) in
    rw e refl

-- whether a colon follows the label
colon_is : (g : _) (c : After-begins g) → begins colon (drop (c.in-Some.len + 2) c.args.text.now) ≡ c.begins.result
colon_is g c = sym (of_text (begins colon) _ c.begins.ensures.value c.rest_of.ensures.value c.as_bytes-bytes.ensures.value)

pub returns-then-not-begins-clause-value : goal.returns-then-not-begins-clause-value
returns-then-not-begins-clause-value g c = λ prefix a.
    let before = (goal.at.returns-then-not-begins-clause-value g c).Else-not-begins_footnote_mark in
    let k = rw c.in-Some.is at c.in_ok-len.ensures.value prefix (λ following answer at b e.
    let there = further c.args.text.now following.now c.range_from-rest.result.now at (mark_place g before) c.range_from-rest.ensures.value b e in
    a following answer (2 + at) there.0 there.1) in
    head_by false prefix c.args.is_in_table c.args.text.now c.in-Some.len c.in-Some.label (mark_is g before)
    (rw c.range_from-rest.ensures.value at k)
    (colon_is g (goal.at.returns-then-not-begins-clause-value g c).After-begins ∙ c.if-not-begins.true)

pub returns-clause-value : goal.returns-clause-value
returns-clause-value g c = λ prefix a.
    let before = (goal.at.returns-clause-value g c).Else-not-begins_footnote_mark in
    let k = rw c.in-Some.is at c.in_ok-len.ensures.value prefix (λ following answer at b e.
    let there = further c.args.text.now following.now c.range_from-rest.result.now at (mark_place g before) c.range_from-rest.ensures.value b e in
    a following answer (2 + at) there.0 there.1) in
    head_by true prefix c.args.is_in_table c.args.text.now c.in-Some.len c.in-Some.label (mark_is g before)
    (rw c.range_from-rest.ensures.value at k)
    (colon_is g (goal.at.returns-clause-value g c).After-begins ∙ c.if-not-begins.false)

pub returns-clause-fits : goal.returns-clause-fits
returns-clause-fits g c = grind (arith, after_colon, colon_is)

pub returns-in_err-len-clause-err : goal.returns-in_err-len-clause-err
returns-in_err-len-clause-err g c =
    let before = (goal.at.returns-in_err-len-clause-err g c).Else-not-begins_footnote_mark in
    on_err c.from_residual.result (
      mark_is g before,
      λ prefix a.
          subst (λ xs. CanErr prefix c.args.is_in_table xs (λ b r. g.F.Fn.post c.args.linebreak_handler (b, tt) r)) c.range_from-rest.ensures.value
          (c.in_err-len.ensures.err prefix (λ following answer at b e.
          let there = further c.args.text.now following.now c.range_from-rest.result.now at (mark_place g before) c.range_from-rest.ensures.value b e in
          a following answer (2 + at) there.0 there.1)),
    )
