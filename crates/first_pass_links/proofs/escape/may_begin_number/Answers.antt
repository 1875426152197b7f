use Rattle.std.proofs.Common.{◌≡◌, ℕ, ◌==◌, ◌||◌, false, List, [], ◌∷◌, length, None, slice_index, refl, sym, ap, ◌∙◌, arith, eqb-true}
use Rattle.std.proofs.lemmas.Bool.Decides.{nat_tests}
use Rattle.std.proofs.lemmas.List.{get_or_past}
use Rattle.std.specs.Char.{is_ascii_digit}
use Rattle.first_pass_items.specs.Bytes.{small_x, capital_x}
use Rattle.first_pass_entities.specs.Entities.{numeric_at, number_at}
use Rattle.first_pass_links.proofs.escape.may_begin_number.Goals as goal

-- neither a digit nor an `x` begins here
none_here : (bs : List ℕ) → (is_ascii_digit (slice_index bs 0) || ((slice_index bs 0 == small_x) || (slice_index bs 0 == capital_x))) ≡ false
    → numeric_at bs ≡ None
unfolding numeric_at number_at
none_here [] h = refl
none_here (b ∷ bs) h =
    let digit : is_ascii_digit b ≡ false = grind (arith, nat_tests, h) in
    let small : (b == small_x) ≡ false = grind (arith, nat_tests, h) in
    let capital : (b == capital_x) ≡ false = grind (arith, nat_tests, h) in
    rw (small, capital, digit) refl

pub returns-then-is_empty : goal.returns-then-is_empty
returns-then-is_empty c h =
    none_here c.args.bytes.now (ap (λ b. is_ascii_digit b || ((b == small_x) || (b == capital_x))) (get_or_past c.args.bytes.now 0 0
    (omega (arith, eqb-true (length c.args.bytes.now) 0 (sym c.is_empty.ensures ∙ c.if-is_empty.true)))))

pub returns : goal.returns
returns c h = none_here c.args.bytes.now (sym c.begins_number.ensures ∙ h)
