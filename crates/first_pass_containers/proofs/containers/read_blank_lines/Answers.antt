use Rattle.std.proofs.Common.{◌≡◌, ◌+◌, Bool, true, false, not, ◌&&◌, drop, is_some, IsCharBoundary, sym, ap, subst, ◌∙◌, arith}
use Rattle.first_pass_grammar.proofs.Common.{and-false, blank_len, line_len, line_end_boundary}
use Rattle.first_pass_containers.proofs.Common.{LineAt, ReadsTo, ends_here}
use Rattle.first_pass_containers.proofs.OrderSteps.{one_read}
use Rattle.first_pass_containers.proofs.containers.read_blank_lines.Goals.{else-is_in_footnote-via-else-is_in_footnote}
use Rattle.first_pass_containers.proofs.containers.read_blank_lines.Goals.{else-is_in_footnote-via-then-is_in_footnote+else-not-has_gfm_footnotes}
use Rattle.first_pass_containers.proofs.containers.read_blank_lines.Goals as goal

-- no footnote definition in the old form is innermost
gfm_stays : (footnote run gfm : Bool) → gfm ≡ true → (footnote && (run && not gfm)) ≡ false
gfm_stays footnote run gfm h = ap (λ g. footnote && (run && not g)) h ∙ ap (λ t. footnote && t) (and-false run) ∙ and-false footnote

other_stays : (footnote run gfm : Bool) → footnote ≡ false → (footnote && (run && not gfm)) ≡ false
other_stays footnote run gfm h = ap (λ f. f && (run && not gfm)) h

pub loop-next-preserved : goal.loop-next-preserved
loop-next-preserved c =
    let source = c.args.source.now in
    let text = source.text.now in
    let i = c.loop-next.invariant in
    let is = c.next_line-next.ensures.value ∙ ap (λ bs. c.loop-next.next + line_len (drop c.loop-next.next bs)) c.as_bytes.ensures.value in
    let kept = c.is_unchanged_by_blank_line.ensures c.if-not-is_unchanged_by_blank_line.false in
    let later = i.later in
    let ends = line_end_boundary text c.loop-next.next c.scan_continued_past.ensures.utf8 i.boundary c.loop-next-test.true in
    let blank = ap (λ bs. is_some (blank_len bs)) (sym c.left.ensures) ∙ ap is_some (sym c.scan_blank_line.ensures.value) ∙ c.is_none.ensures
    ∙ ap not c.if-is_none.false in
    let stays : ends_here source.options c.args.state.now.tree c.args.state.now.blank ≡ false = elim c.else-is_in_footnote.branch [
      | else-is_in_footnote-via-then-is_in_footnote+else-not-has_gfm_footnotes w ↦
          gfm_stays _ c.args.state.now.blank _ (sym w.has_gfm_footnotes.ensures ∙ w.if-not-has_gfm_footnotes.false)
      | else-is_in_footnote-via-else-is_in_footnote w ↦
          other_stays _ c.args.state.now.blank _ (sym c.is_in_footnote.ensures ∙ w.if-is_in_footnote.false)
    ] in
    record {
      later = omega arith;
      boundary = subst (IsCharBoundary text) (sym is) ends;
      read = subst (λ n. ReadsTo source c.args.start c.args.state.now c.args.state.now (LineAt c.args.start) (LineAt n)) (sym is)
          (one_read source c.args.start c.loop-next.next c.args.state.now c.scan_continued_past.ensures.utf8 kept stays c.loop-next-test.true i.boundary
          (record { rest = c.in-Some.rest; taken = sym c.scan_continued_past.ensures.value ∙ c.in-Some.is; blank = blank }) i.read);
    }
