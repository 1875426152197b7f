use Rattle.std.proofs.Common.{◌≡◌, ℕ, ◌+◌, List, drop, None, IsCharBoundary, sym, ap, subst, ◌∙◌, drop-drop, arith}
use Rattle.first_pass_grammar.proofs.Common.{eol_len, blank_len}
use Rattle.first_pass_links.proofs.Labels.{place_past}
use Rattle.first_pass_definitions.proofs.Spaces.{eol_after, rest_further, no_feed, some_left, later_by}
use Rattle.first_pass_definitions.proofs.title.scan_title_break.Goals as goal
use Rattle.first_pass_definitions.proofs.title.scan_title_break.Goals.{After-rest_of-2}

-- after the line ending
line_place : (c : After-rest_of-2) → IsCharBoundary c.args.bytes.now (c.args.at + c.in-Some.line_end)
line_place c = grind (arith, eol_after)

pub scan_title_prefix-requires : goal.scan_title_prefix-requires
scan_title_prefix-requires c = grind (arith, rest_further, line_place)

-- the rest there is not blank
text_is : (bytes rest : List ℕ) (k n : ℕ) → rest ≡ drop k bytes → blank_len (drop n rest) ≡ None → blank_len (drop (k + n) bytes) ≡ None
text_is bytes rest k n e h = ap blank_len (sym (drop-drop n k bytes) ∙ ap (drop n) (sym e)) ∙ h

pub returns-in-Some-2-clause-texts : goal.returns-in-Some-2-clause-texts
returns-in-Some-2-clause-texts c = grind (arith, no_feed, text_is)

pub returns-in-Some-2-clause-place : goal.returns-in-Some-2-clause-place
returns-in-Some-2-clause-place c =
    let b = line_place (goal.at.returns-in-Some-2-clause-place c).After-rest_of-2 in
    let place = rw c.in-Some-2.is at c.in_ok-prefix.ensures.place in
    let left = some_left (drop (c.args.at + c.in-Some.line_end + c.in-Some-2.prefix) c.args.bytes.now)
    (text_is c.args.bytes.now c.rest_of-2.result.now (c.args.at + c.in-Some.line_end) c.in-Some-2.prefix c.rest_of-2.ensures.value
    (rw c.in-Some-2.is at c.in_ok-prefix.ensures.text)) in (
      later_by c.args.bytes.now c.args.at c.in-Some.line_end c.in-Some-2.prefix left (ap eol_len (sym c.rest_of.ensures.value) ∙ sym
          c.scan_eol.ensures.value ∙ c.in-Some.is),
      place_past c.args.bytes.now (c.args.at + c.in-Some.line_end) c.in-Some-2.prefix b.0
          (subst (λ xs. IsCharBoundary xs c.in-Some-2.prefix) c.rest_of-2.ensures.value place),
    )
