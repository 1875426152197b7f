-- The results of `parse` and `from_bits` for a word that may denote options.
use Rattle.std.proofs.Common.{◌≡◌, ℕ, ◌↔◌, ◌==◌, false, cond, List, Option, Some, None, IfSome, IsSome, IsNone, bit_and, drop, slice_index, refl, sym, ap}
use Rattle.std.proofs.Common.{◌∙◌, subst, true≢false}
use Rattle.std.specs.Str.Parse.{IsNumeral, digits_value, without_leading_plus}
use Rattle.first_pass_items.specs.Bytes.{plus_sign}
use Rattle.first_pass_items.specs.declared.option_set.Options.{Options}
use Rattle.first_pass_host.specs.OptionWord.{WordMeans}

-- the digits that `parse` reads are the whole word, if no plus precedes them
parsed : (word : List ℕ) (n : ℕ) → (slice_index word 0 == plus_sign) ≡ false → IsNumeral 10 (without_leading_plus word)
    → n ≡ digits_value 10 (without_leading_plus word) → IsNumeral 10 word × (digits_value 10 word ≡ n)
parsed word n no_plus numeral value =
    let plain : without_leading_plus word ≡ word = ap (λ b. drop (cond b 1 0) word) no_plus in
    (subst (IsNumeral 10) plain numeral, sym (value ∙ ap (digits_value 10) plain))

-- a number that `parse` reads and `from_bits` accepts
pub taken : (word : List ℕ) (n : ℕ) (r : Option Options)
    → (slice_index word 0 == plus_sign) ≡ false → IsNumeral 10 (without_leading_plus word) → n ≡ digits_value 10 (without_leading_plus word)
    → IfSome r (λ o. o.0 ≡ n) → (IsSome r ↔ (bit_and n 65534 ≡ n)) → IfSome r (λ o. WordMeans word o.0)
taken word n None no_plus numeral value is known = tt
taken word n (Some o) no_plus numeral value is known =
    let (whole, sum) = parsed word n no_plus numeral value in
    (whole, sum ∙ sym is, subst (λ b. bit_and b 65534 ≡ b) (sym is) (known.0 refl))

-- a number that `parse` reads and `from_bits` does not accept
pub untaken : (word : List ℕ) (n : ℕ) (r : Option Options)
    → (slice_index word 0 == plus_sign) ≡ false → IsNumeral 10 (without_leading_plus word) → n ≡ digits_value 10 (without_leading_plus word)
    → (IsSome r ↔ (bit_and n 65534 ≡ n)) → IsNone r → (bits : ℕ) → WordMeans word bits → ⊥
untaken word n (Some o) no_plus numeral value known none bits stands = true≢false none
untaken word n None no_plus numeral value known none bits (_, sum, kept) =
    let (whole, read) = parsed word n no_plus numeral value in
    let here : IsSome {T = Options} None = known.1 (subst (λ b. bit_and b 65534 ≡ b) (sym sum ∙ read) kept) in cc
