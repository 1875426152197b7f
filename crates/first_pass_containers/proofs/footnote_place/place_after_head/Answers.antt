use Rattle.std.proofs.Common.{◌≡◌, ◌+◌, ◌≤◌, arith, drop, sym, ap, subst, ◌∙◌}
use Rattle.first_pass_grammar.proofs.Common.{gfm_footnotes, Place, line_rest, place_at, line_end, IsPlaceOf, line_is_place, lines_from}
use Rattle.first_pass_containers.specs.FootnoteHeads.{head_end}
use Rattle.first_pass_containers.proofs.Openings.HeadLemmas.{continues}
use Rattle.first_pass_containers.proofs.footnote_place.place_after_head.Goals as goal

-- blocks continue at the place that was found
pub returns : goal.returns
returns c =
    let text = c.args.source.now.text.now in
    let at = c.args.end + c.skipped_rest.result in
    let t =
    continues (gfm_footnotes c.args.source.now.options) text c.args.end c.skipped_rest.result c.requires.utf8 c.requires.boundary c.skipped_rest.ensures in
    let same : place_at at c.new.result ≡ head_end text at =
    ap (place_at at) (c.new.ensures ∙ ap line_rest (c.rest_of.ensures.value ∙ ap (drop at) c.as_bytes-bytes.ensures.value)) in
    record {
      place = subst (IsPlaceOf text) (sym same) (line_is_place text at t.2);
      boundary = t.2;
      later = omega arith;
      ends = subst (λ (q : Place). line_end (head_end text c.args.end) ≤ line_end q) (sym same) t.1;
      there = ap (λ (q : Place). (q, lines_from text (line_end q))) same ∙ sym t.0;
    }
