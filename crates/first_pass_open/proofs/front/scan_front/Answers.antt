use Rattle.std.proofs.Common.{drop, IsUtf8, ◌∙◌, ap, subst, sym}
use Rattle.first_pass_grammar.proofs.Common.{line_rest, place_at, IsPlaceOf, line_is_place, front}
use Rattle.first_pass_open.proofs.Common.{path_of}
use Rattle.first_pass_open.proofs.PlaceLemmas.{front_keeps}
use Rattle.first_pass_open.proofs.front.scan_front.Goals as goal

pub returns-clause-place : goal.returns-clause-place
returns-clause-place c =
    let text = c.args.source.now.text.now in
    let start = c.args.start in
    let path = path_of c.args.source.now.options c.args.tree.now in
    let bytes = c.rest_of.ensures.value ∙ ap (drop start) c.as_bytes.ensures.value in
    subst (λ r. IsPlaceOf text (place_at start r)) (sym (c.front_of.ensures.front ∙ ap (λ bs. front path (line_rest bs)) bytes))
    (front_keeps text start path (line_rest (drop start text)) (subst IsUtf8 c.as_bytes.ensures.value c.as_bytes.ensures.utf8)
    (line_is_place text start c.requires)).0
