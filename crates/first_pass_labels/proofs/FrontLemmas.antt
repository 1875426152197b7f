-- The first bytes of two texts, as numbers, decide their order if the numbers differ.
use Rattle.std.proofs.Common.{◌≡◌, ℕ, zero, suc, ◌+◌, ◌*◌, ◌^◌, ◌<◌, ◌≤◌, List, [], ◌∷◌, slice_index, inl, inr, refl, sym, ap, ap₂, subst, ◌∙◌, arith}
use Rattle.std.proofs.Common.{suc-le-suc, zero-le, not-suc-le-zero, nat_cmp, Less, Equal, Greater}
use Rattle.std.proofs.lemmas.Bool.{cases_lt}
use Rattle.std.specs.Cmp.{nat_cmp_is}
use Rattle.std.specs.Cmp.Lexicographic.{slice_cmp, nat_list_cmp_total}
use Rattle.std.specs.Int.{w128, from_be_bytes}
use Rattle.std.specs.Ordering.{ordering_then, ordering_reverse}
use Rattle.first_pass_items.specs.declared.cow_str.CowStr.{CowStr}
use Rattle.first_pass_labels.specs.Foldings.{leading_number, folding_of, label_cmp}

-- each byte is below 256
abbrev Fit : List ℕ → Type 0
Fit bs = (k : ℕ) → slice_index bs k < 256

-- the same bytes have the same number
alike_number : (n : ℕ) (xs ys : List ℕ) → ((k : ℕ) → k < n → slice_index xs k ≡ slice_index ys k) → leading_number n xs ≡ leading_number n ys
alike_number zero xs ys same = refl
alike_number (suc n) xs ys same =
    ap₂ (λ (a b : ℕ). a * 256 + b) (alike_number n xs ys (λ k below. same k (omega (arith, below)))) (same n (omega arith))

pub front_number : (front bytes : List ℕ) (r : ℕ) → r ≡ from_be_bytes w128 front → ((k : ℕ) → k < 16 → slice_index front k ≡ slice_index bytes k)
    → r ≡ leading_number 16 bytes
front_number front bytes r is same = omega (arith, is, alike_number 16 front bytes same)

-- fronts with the same number have the same bytes
alike : (n : ℕ) (xs ys : List ℕ) → Fit xs → Fit ys → leading_number n xs ≡ leading_number n ys → (k : ℕ) → k < n → slice_index xs k ≡ slice_index ys k
alike zero xs ys f g same k lt = absurd (not-suc-le-zero lt)
alike (suc n) xs ys f g same k lt =
    let front : leading_number n xs ≡ leading_number n ys = omega (arith, same, f n, g n) in
    elim (cases_lt k n) [
      | inl below ↦ alike n xs ys f g front k below
      | inr last ↦
          let at : n ≡ k = omega (arith, last, lt) in
          subst (λ (j : ℕ). slice_index xs j ≡ slice_index ys j) at (omega (arith, same, front))
    ]

less_at : (n : ℕ) (xs ys : List ℕ) → ((k : ℕ) → k < n → slice_index xs k ≡ slice_index ys k) → slice_index xs n < slice_index ys n
    → slice_cmp nat_cmp xs ys ≡ Less
less_at n [] [] same less = absurd (not-suc-le-zero less)
less_at n [] (y ∷ ys) same less = refl
less_at n (x ∷ xs) [] same less = absurd (not-suc-le-zero less)
less_at zero (x ∷ xs) (y ∷ ys) same less = ap (λ o. ordering_then o (slice_cmp nat_cmp xs ys)) (sym (nat_cmp_is x y Less less))
less_at (suc n) (x ∷ xs) (y ∷ ys) same less =
    ap (λ o. ordering_then o (slice_cmp nat_cmp xs ys)) (sym (nat_cmp_is x y Equal (same 0 (suc-le-suc zero-le))))
    ∙ less_at n xs ys (λ k below. same (suc k) (suc-le-suc below)) less

front_less : (n : ℕ) (xs ys : List ℕ) → Fit xs → Fit ys → leading_number n xs < leading_number n ys → slice_cmp nat_cmp xs ys ≡ Less
front_less zero xs ys f g less = absurd (not-suc-le-zero less)
front_less (suc n) xs ys f g less =
    elim (cases_lt (leading_number n xs) (leading_number n ys)) [
      | inl below ↦ front_less n xs ys f g below
      | inr level ↦
          let front : leading_number n xs ≡ leading_number n ys = omega (arith, level, less, f n, g n) in
          less_at n xs ys (alike n xs ys f g front) (omega (arith, less, front))
    ]

-- the first sixteen bytes of a label's folding as two numbers, and each byte is below 256
abbrev pub AreFirst : CowStr → ℕ → ℕ → Type 0
AreFirst label first second =
    (first * 2 ^ 64 + second ≡ leading_number 16 (folding_of label)) × (second < 2 ^ 64) × Fit (folding_of label)

module _ (x y : CowStr) (a b c d : ℕ) (f : AreFirst x a b) (g : AreFirst y c d) where
  number_less : a * 2 ^ 64 + b < c * 2 ^ 64 + d → label_cmp x y ≡ Less
  number_less less =
      front_less 16 (folding_of x) (folding_of y) f.2 g.2
      (subst (λ (k : ℕ). k < leading_number 16 (folding_of y)) f.0 (subst (λ (k : ℕ). a * 2 ^ 64 + b < k) g.0 less))

  -- a label with a smaller number is before the other
  pub first_below : a < c → label_cmp x y ≡ Less
  first_below less = number_less (omega (arith, less, f.1, g.1))

  pub second_below : c ≤ a → a ≤ c → b < d → label_cmp x y ≡ Less
  second_below le ge less = number_less (omega (arith, le, ge, less))

pub swapped : (x y : CowStr) → label_cmp y x ≡ Less → Greater ≡ label_cmp x y
swapped x y less = sym (nat_list_cmp_total.antisymm (folding_of x) (folding_of y) ∙ ap ordering_reverse less)
