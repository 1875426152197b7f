use Rattle.std.proofs.Common.{◌≡◌, ℕ, ◌+◌, true, false, List, drop, Some, is_some, IsUtf8, IsCharBoundary, sym, ap, subst, ◌∙◌}
use Rattle.first_pass_grammar.proofs.Common.{prefix_len, is_white, eol_len, at_line_end}
use Rattle.first_pass_links.proofs.Parts.{of_text}
use Rattle.first_pass_open.specs.Path.{context_of}
use Rattle.first_pass_lines.proofs.PlaceFacts.{white_boundary}
use Rattle.first_pass_definitions.proofs.Spaces.{eol_after, space_plain, space_stops, crossed_space, space_over}
use Rattle.first_pass_definitions.proofs.space.scan_refdef_space.Goals as goal
use Rattle.first_pass_definitions.proofs.space.scan_refdef_space.Goals.{After-scan_eol, After-is_some}

module _ (g : After-scan_eol) where
  abbrev text : List ℕ
  text = g.args.source.now.text.now

  is_text : IsUtf8 text
  is_text = subst IsUtf8 g.as_bytes-bytes.ensures.value g.as_bytes-bytes.ensures.utf8

  white_is : g.scan_whitespace_no_nl.result ≡ prefix_len is_white (drop g.args.start text)
  white_is = of_text (prefix_len is_white) _ g.scan_whitespace_no_nl.ensures.value g.rest_of.ensures.value g.as_bytes-bytes.ensures.value

  eol_is : g.scan_eol.result ≡ eol_len (drop (g.args.start + g.scan_whitespace_no_nl.result) text)
  eol_is = of_text eol_len _ g.scan_eol.ensures.value g.rest_of-2.ensures.value g.as_bytes-bytes.ensures.value

  white_place : IsCharBoundary text (g.args.start + g.scan_whitespace_no_nl.result)
  white_place = subst (λ n. IsCharBoundary text (g.args.start + n)) (sym white_is) (white_boundary text g.args.start is_text g.requires)

pub returns-in_default-clause-value : goal.returns-in_default-clause-value
returns-in_default-clause-value c =
    let at = (goal.at.returns-in_default-clause-value c).After-scan_eol in
    space_plain (context_of c.args.source.now.options c.args.tree.now) c.args.source.now.text.now c.args.start c.scan_whitespace_no_nl.result (white_is at)
    (sym (eol_is at) ∙ c.in_default.is)

pub returns-in_default-clause-place : goal.returns-in_default-clause-place
returns-in_default-clause-place c = white_place (goal.at.returns-in_default-clause-place c).After-scan_eol

pub scan_line_crossed-requires : goal.scan_line_crossed-requires
scan_line_crossed-requires c =
    let at = (goal.at.scan_line_crossed-requires c).After-scan_eol in
    eol_after c.args.source.now.text.now _ c.in-Some.line_end (is_text at) (white_place at) (sym (eol_is at) ∙ c.in-Some.is)

pub returns-in_default-2-clause-value : goal.returns-in_default-2-clause-value
returns-in_default-2-clause-value c =
    let at = (goal.at.returns-in_default-2-clause-value c).After-scan_eol in
    space_stops (context_of c.args.source.now.options c.args.tree.now) c.args.source.now.text.now c.args.start c.scan_whitespace_no_nl.result c.in-Some.line_end
    (white_is at) (sym (eol_is at) ∙ c.in-Some.is) (sym c.in_default-2.is ∙ c.in_ok-rest.ensures.value)

module _ (g : After-is_some) where
  abbrev bytes : List ℕ
  bytes = g.args.source.now.text.now

  abbrev next : ℕ
  next = g.args.start + g.scan_whitespace_no_nl.result + g.in-Some.line_end

  past_is : g.scan_whitespace_no_nl-2.result ≡ prefix_len is_white (drop (next + g.in-Some-2.rest.taken) bytes)
  past_is = of_text (prefix_len is_white) _ g.scan_whitespace_no_nl-2.ensures.value g.rest_of-3.ensures.value g.as_bytes-bytes.ensures.value
      ∙ ap (λ k. prefix_len is_white (drop (next + k) bytes)) g.bytes_scanned.ensures

  ends_is : is_some g.scan_eol-2.result ≡ at_line_end (drop (next + g.in-Some-2.rest.taken + g.scan_whitespace_no_nl-2.result) bytes)
  ends_is = ap is_some (of_text eol_len _ g.scan_eol-2.ensures.value g.rest_of-4.ensures.value g.as_bytes-bytes.ensures.value)
      ∙ ap (λ k. at_line_end (drop (next + k + g.scan_whitespace_no_nl-2.result) bytes)) g.bytes_scanned.ensures

pub returns-then-is_some-clause-value : goal.returns-then-is_some-clause-value
returns-then-is_some-clause-value c =
    let at = (goal.at.returns-then-is_some-clause-value c).After-scan_eol in
    let last = (goal.at.returns-then-is_some-clause-value c).After-is_some in
    space_over true (context_of c.args.source.now.options c.args.tree.now) c.args.source.now.text.now c.args.start c.scan_whitespace_no_nl.result
    c.in-Some.line_end c.scan_whitespace_no_nl-2.result c.in-Some-2.rest
    (crossed_space _ _ _ _ _ (Some c.in-Some-2.rest) (white_is at) (sym (eol_is at) ∙ c.in-Some.is) (sym c.in-Some-2.is ∙ c.in_ok-rest.ensures.value))
    (past_is last) (sym (ends_is last) ∙ sym c.is_some.ensures ∙ c.if-is_some.true)

pub returns-clause-value : goal.returns-clause-value
returns-clause-value c =
    let at = (goal.at.returns-clause-value c).After-scan_eol in
    let last = (goal.at.returns-clause-value c).After-is_some in
    ap (λ k. Some (c.args.start + c.scan_whitespace_no_nl.result + c.in-Some.line_end + k + c.scan_whitespace_no_nl-2.result, 1)) c.bytes_scanned.ensures
    ∙ space_over false (context_of c.args.source.now.options c.args.tree.now) c.args.source.now.text.now c.args.start c.scan_whitespace_no_nl.result
    c.in-Some.line_end c.scan_whitespace_no_nl-2.result c.in-Some-2.rest
    (crossed_space _ _ _ _ _ (Some c.in-Some-2.rest) (white_is at) (sym (eol_is at) ∙ c.in-Some.is) (sym c.in-Some-2.is ∙ c.in_ok-rest.ensures.value))
    (past_is last) (sym (ends_is last) ∙ sym c.is_some.ensures ∙ c.if-is_some.false)

pub returns-clause-place : goal.returns-clause-place
returns-clause-place c =
    let at = (goal.at.returns-clause-place c).After-scan_eol in
    let last = (goal.at.returns-clause-place c).After-is_some in
    rw (c.bytes_scanned.ensures, past_is last)
    (white_boundary c.args.source.now.text.now _ (is_text at) (rw c.in-Some-2.is at c.in_ok-rest.ensures.place).boundary)
