-- The lowest set bit of a mask.
use Rattle.std.proofs.Common.{◌≡◌, ℕ, ◌^◌, ◌<◌, w64, sym, arith, inl, inr, eq-eqb, ne_eqb}
use Rattle.std.specs.Int.{trailing_zeros}
use Rattle.std.proofs.lemmas.Bool.{cases_lt, cond-true, cond-false}
use Rattle.std.proofs.lemmas.Nat.Bits.{bit_at-trailing_zeros, bit_at_above}
use Rattle.first_pass_lines.specs.Lanes.{first_set}

pub none_set : (m n : ℕ) → m ≡ 0 → n ≡ first_set m n
none_set m n none = sym (cond-true _ _ _ (eq-eqb _ _ none))

pub lowest_set : (m n : ℕ) → ¬ (m ≡ 0) → trailing_zeros w64 m ≡ first_set m n
lowest_set m n some = sym (cond-false _ _ _ (ne_eqb _ _ some))

pub lowest_within : (m n : ℕ) → ¬ (m ≡ 0) → m < 2 ^ n → m < 2 ^ 64 → trailing_zeros w64 m < n
lowest_within m n some low fits =
    let lowest = bit_at-trailing_zeros w64 m (omega (arith, some)) fits in
    elim (cases_lt (trailing_zeros w64 m) n) [
      | inl within ↦ within
      | inr above ↦ absurd (let clear = bit_at_above m n (trailing_zeros w64 m) low (omega arith) in omega (arith, lowest.1))
    ]
