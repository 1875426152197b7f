use Rattle.std.proofs.Common.{drop, IsUtf8, ◌∙◌, ap, subst, sym}
use Rattle.first_pass_grammar.proofs.Common.{line_rest, line_is_place, after}
use Rattle.first_pass_open.proofs.Common.{path_of}
use Rattle.first_pass_open.proofs.PlaceLemmas.{after_keeps}
use Rattle.first_pass_open.proofs.front.scan_continued_past.Goals as goal

pub returns-clause-place : goal.returns-clause-place
returns-clause-place c =
    let text = c.args.source.now.text.now in
    let start = c.args.start in
    let path = path_of c.args.source.now.options c.args.tree.now in
    let bytes = c.rest_of.ensures.value ∙ ap (drop start) c.as_bytes.ensures.value in
    let taken = ap (λ bs. after path (line_rest bs)) (sym bytes) ∙ sym c.continued_rest.ensures ∙ c.in_ok-rest.was in
    (after_keeps text start path (line_rest (drop start text)) c.in_ok-rest.rest
    (subst IsUtf8 c.as_bytes.ensures.value c.as_bytes.ensures.utf8) taken (line_is_place text start c.requires.boundary)).0
