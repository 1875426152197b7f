use Rattle.std.proofs.Common.{◌≡◌, ℕ, true, List, ◌∷◌, drop, sym, ap, ◌∙◌, arith}
use Rattle.first_pass_items.specs.Bytes.{less_than}
use Rattle.first_pass_lines.specs.Lines.{begins}
use Rattle.first_pass_html.proofs.FrontFacts.{first_byte}
use Rattle.first_pass_html.proofs.WholeTagFacts.{open_found, open_none, close_found, close_none, needs_bracket}
use Rattle.first_pass_html.proofs.tags.scan_tag.Goals as goal

-- the bytes after a first byte
whole : (b : ℕ) (bytes rest : List ℕ) → begins b bytes ≡ true → rest ≡ drop 1 bytes → bytes ≡ b ∷ rest
whole b bytes rest h e = first_byte b bytes h ∙ ap (λ xs. b ∷ xs) (sym e)

pub returns-then-not-begins-clause-none : goal.returns-then-not-begins-clause-none
returns-then-not-begins-clause-none c = needs_bracket c.args.bytes.now (sym c.if-not-begins.ensures.value)

pub returns-in_err-len-clause-none : goal.returns-in_err-len-clause-none
returns-in_err-len-clause-none c = grind (arith, whole, close_none)

pub returns-then-begins-clause-found : goal.returns-then-begins-clause-found
returns-then-begins-clause-found c = grind (arith, whole, close_found)

pub returns-in_err-len-2-clause-none : goal.returns-in_err-len-2-clause-none
returns-in_err-len-2-clause-none c =
    let rest = whole less_than c.args.bytes.now c.rest_of-rest.result.now (sym c.if-not-begins.ensures.value) c.rest_of-rest.ensures.value in
    rw c.from_residual-in_err-len-2.ensures (open_none c.args.bytes.now _ rest (sym c.if-begins.ensures.value) c.in_err-len-2.ensures.none)

pub returns-clause-found : goal.returns-clause-found
returns-clause-found c =
    let rest = whole less_than c.args.bytes.now c.rest_of-rest.result.now (sym c.if-not-begins.ensures.value) c.rest_of-rest.ensures.value in
    open_found c.args.bytes.now _ c.in_ok-len-2.len rest (sym c.if-begins.ensures.value) c.in_ok-len-2.ensures.found
