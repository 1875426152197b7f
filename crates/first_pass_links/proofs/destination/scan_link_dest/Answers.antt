use Rattle.std.proofs.Common.{◌≡◌, ℕ, ◌+◌, drop, sym, ap, subst, ◌∙◌, arith, IsCharBoundary, drop-drop}
use Rattle.std.proofs.lemmas.Str.{IsCharBoundary-after_ascii}
use Rattle.first_pass_items.specs.Bytes.{less_than, greater_than}
use Rattle.first_pass_lines.specs.Lines.{begins}
use Rattle.first_pass_links.proofs.Destinations.{first_byte}
use Rattle.first_pass_links.proofs.destination.scan_link_dest.Goals as goal

pub range-requires-clause-start_boundary : goal.range-requires-clause-start_boundary
range-requires-clause-start_boundary c =
    let s = first_byte less_than c.args.text.now c.args.start_ix
    (ap (λ xs. begins less_than xs) (sym (c.rest_of-bytes.ensures.value ∙ ap (drop c.args.start_ix) c.as_bytes.ensures.value)) ∙ sym c.begins.ensures.value
    ∙ c.if-begins.true) in
    λ h. IsCharBoundary-after_ascii c.args.text.now c.args.start_ix c.utf8.text s.0 (omega (arith, s.1))

pub returns-then-begins-2-clause-following : goal.returns-then-begins-2-clause-following
returns-then-begins-2-clause-following c =
    let text = c.args.text.now in
    let n : ℕ = c.scan_brackets-len.result in
    let bytes = c.rest_of-bytes.ensures.value ∙ ap (drop c.args.start_ix) c.as_bytes.ensures.value in
    let there = c.rest_of.ensures.value ∙ ap (drop (1 + n)) bytes ∙ drop-drop (1 + n) c.args.start_ix text in
    let s =
    first_byte greater_than text (c.args.start_ix + (1 + n))
    (ap (λ xs. begins greater_than xs) (sym there) ∙ sym c.begins-then-begins.ensures.value ∙ c.if-begins-2.true) in
    let e : c.args.start_ix + (1 + n) + 1 ≡ c.args.start_ix + (n + 2) = omega arith in
    subst (IsCharBoundary text) e (IsCharBoundary-after_ascii text (c.args.start_ix + (1 + n)) c.utf8.text s.0 (omega (arith, s.1)))
