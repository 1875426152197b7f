use Rattle.std.proofs.Common.{◌≡◌, ℕ, ◌-◌, length, drop, IsCharBoundary, sym, ap, ◌∙◌, arith}
use Rattle.first_pass_grammar.proofs.Common.{none_is, blank_len, Rest, place_at, IsPlaceOf, all_taken}
use Rattle.first_pass_open.proofs.PlaceLemmas.{all_keep}
use Rattle.first_pass_definitions.proofs.Spaces.{rest_place}
use Rattle.first_pass_definitions.proofs.title.scan_title_prefix.Goals as goal
use Rattle.first_pass_definitions.proofs.title.scan_title_prefix.Goals.{After-bytes_scanned}

-- after the indentation of the line
text_place : (c : After-bytes_scanned)
    → ((all_taken c.in-Some.rest).left ≡ drop (all_taken c.in-Some.rest).taken c.args.bytes.now) × IsCharBoundary c.args.bytes.now
    (all_taken c.in-Some.rest).taken
text_place c =
    let text = c.args.source.now.text.now in
    let s : ℕ = length text - length c.args.bytes.now in
    let place : IsPlaceOf text (place_at s c.in-Some.rest) = rw c.in-Some.is at c.in_ok-rest.ensures.place in
    rest_place text c.args.bytes.now s (all_taken c.in-Some.rest) (omega arith) c.requires.are (all_keep text s c.in-Some.rest c.in_ok-rest.ensures.utf8 place)

taken_is : (c : After-bytes_scanned) → c.bytes_scanned.result ≡ (all_taken c.in-Some.rest).taken
taken_is c = c.bytes_scanned.ensures ∙ ap (λ (r : Rest). r.taken) c.scan_all_space.ensures

pub returns-clause-place : goal.returns-clause-place
returns-clause-place c =
    let at = (goal.at.returns-clause-place c).After-bytes_scanned in rw (taken_is at) (text_place at).1

pub returns-clause-text : goal.returns-clause-text
returns-clause-text c =
    let at = (goal.at.returns-clause-text c).After-bytes_scanned in
    let left : c.left.result.now ≡ drop c.bytes_scanned.result c.args.bytes.now =
    c.left.ensures ∙ ap (λ (r : Rest). r.left) c.scan_all_space.ensures ∙ (text_place at).0 ∙ ap (λ n. drop n c.args.bytes.now) (sym (taken_is at))
    in
    ap blank_len (sym left) ∙ sym c.scan_blank_line.ensures.value ∙ none_is _ (sym c.is_some.ensures ∙ c.if-is_some.false)
