use Rattle.std.proofs.Common.{◌≡◌, ℕ, ◌+◌, List, None, drop, sym, ap, ◌∙◌}
use Rattle.std.specs.Option.{option_map}
use Rattle.first_pass_atoms.specs.RawHtml.{end_len}
use Rattle.first_pass_atoms.specs.HtmlEnds.{HasNoneFrom}
use Rattle.first_pass_atoms.proofs.EndFacts.{found, not_found, none_later}
use Rattle.first_pass_atoms.proofs.html_ends.end_after.Goals as goal

-- a search in vain, and the place after what is found
no_end : (text content : List ℕ) (from : ℕ) → HasNoneFrom text content from → None ≡ option_map (λ n. from + n) (end_len text (drop from content))
no_end text content from h = sym (ap (option_map (λ n. from + n)) h)

pub returns-then-none-from-clause-value : goal.returns-then-none-from-clause-value
returns-then-none-from-clause-value c =
    no_end c.args.text.now c.args.content.now c.args.from
    (none_later c.args.text.now c.args.content.now c.args.none.now c.args.from c.if-none-from.true c.requires.known)

pub returns-in-Some-clause-value : goal.returns-in-Some-clause-value
returns-in-Some-clause-value c =
    let text : List ℕ = c.args.text.now in
    let here = found text c.rest_of.result.now c.in-Some.before c.requires.some c.in-Some.ensures.0.before c.in-Some.ensures.1 in
    sym (ap (option_map (λ n. c.args.from + n)) (ap (end_len text) (sym c.rest_of.ensures.value) ∙ here))

pub returns-in-None-clause-value : goal.returns-in-None-clause-value
returns-in-None-clause-value c =
    let text : List ℕ = c.args.text.now in
    no_end text c.args.content.now c.args.from (ap (end_len text) (sym c.rest_of.ensures.value) ∙ not_found text c.rest_of.result.now c.in-None.ensures)

pub returns-in-None-clause-known : goal.returns-in-None-clause-known
returns-in-None-clause-known c =
    let text : List ℕ = c.args.text.now in
    ap (end_len text) (sym c.rest_of.ensures.value) ∙ not_found text c.rest_of.result.now c.in-None.ensures
