-- Facts on the special bytes.
use Rattle.std.proofs.Common.{◌≡◌, inl, inr, ℕ, ◌<◌, nat_lt, Bool, true, false, true≢false, ◌==◌, ◌&&◌, ◌||◌, not, List, ap, sym, refl, ◌∙◌, arith}
use Rattle.first_pass_walk.proofs.Common.{cases_Bool, MarksSpecial, is_passed, SparesWords, nat_tests, space}
use Rattle.first_pass_items.specs.declared.option_set.Options.{Options}
use Rattle.first_pass_lines.specs.Lines.{is_line_end}
use Rattle.first_pass_lines.proofs.LineFacts.{isnt}
use Rattle.first_pass_walk.specs.Walk.{is_special}

and_off : (t u : Bool) → u ≡ false → (t && u) ≡ false
and_off true u e = e
and_off false u e = refl

or_off : (t u : Bool) → t ≡ false → u ≡ false → t || u ≡ false
or_off t u e f = rw e f

passed_small : (b : ℕ) → is_passed b ≡ true → b < 256
passed_small b h = grind (arith, nat_tests, h)

-- A byte is not special if it differs from each byte that is not passed and is above a space or in a line ending.
not_special : (options : Options) (b : ℕ) → ((c : ℕ) → is_passed c ≡ false → (is_line_end c || nat_lt space c) ≡ true → b == c ≡ false)
    → is_special options b ≡ false
unfolding is_special
not_special options b h = grind (arith, or_off, and_off)

pub spares_words : (options : Options) (lut : List Bool) → MarksSpecial lut options → SparesWords lut
spares_words options lut m b h = m b (passed_small b h) ∙ not_special options b (λ c k mark. isnt is_passed b c h k)

-- of the special bytes, only those of a line ending are below a space
pub low_special : (options : Options) (b : ℕ) → b < 32 → is_special options b ≡ true → is_line_end b ≡ true
low_special options b low special = elim (cases_Bool (is_line_end b)) [
  | inl ends ↦ ends
  | inr other ↦
      let above : nat_lt space b ≡ false = grind (arith, nat_tests, low) in
      let low_b = ap not (or_off (is_line_end b) (nat_lt space b) other above) in
      absurd (true≢false (sym special ∙ not_special options b (λ c k h. isnt (λ x. not (is_line_end x || nat_lt space x)) b c low_b (ap not h))))
]
