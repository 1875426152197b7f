use Rattle.std.proofs.Common.{◌≡◌, ℕ, ◌+◌, ◌<◌, drop, Option, IfSome, IsUtf8, IsCharBoundary, ap, subst, ◌∙◌, arith}
use Rattle.first_pass_grammar.proofs.Common.{prefix_len, CowStr, is_white}
use Rattle.first_pass_lines.proofs.PlaceFacts.{white_boundary}
use Rattle.first_pass_blocks.proofs.state.BlockPass.parse_footnote.Goals as goal

pub returns-clause-within : goal.returns-clause-within
returns-clause-within c =
    let text = c.args.self.now.source.text.now in
    let e = c.args.start + c.in-Some.size in
    let w = subst (λ (z : Option (ℕ × CowStr)). IfSome z (λ found. (3 < found.0) × IsCharBoundary text (c.args.start + found.0))) c.in-Some.is
    c.in_ok-size.ensures.fits in
    let u = subst IsUtf8 c.as_bytes.ensures.value c.as_bytes.ensures.utf8 in
    let is : c.scan_whitespace_no_nl.result ≡ prefix_len is_white (drop e text) =
    c.scan_whitespace_no_nl.ensures.value
    ∙ ap (prefix_len is_white) (c.rest_of-rest.ensures.value ∙ ap (drop e) c.as_bytes.ensures.value) in
    let some = w.0 in
    let same : e + prefix_len is_white (drop e text) ≡ c.args.start + (c.in-Some.size + c.scan_whitespace_no_nl.result) = omega arith in
    (omega arith, subst (IsCharBoundary text) same (white_boundary text e u w.1))
