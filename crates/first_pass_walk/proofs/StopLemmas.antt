-- The set bits of a mask, and the bytes that they stand for.
use Rattle.std.proofs.Common.{◌≡◌, ◌⊎◌, inl, inr, ℕ, zero, suc, ◌+◌, ◌-◌, ◌/◌, ◌%◌, ◌^◌, ◌<◌, ◌≤◌, ◌==◌, ◌*◌, Bool, false, List, slice_index, Option, Some}
use Rattle.std.proofs.Common.{None, IfNone, subst, w64, bit_and, refl, sym, ap, ◌∙◌, arith, pow_pos, pow-add}
use Rattle.first_pass_walk.proofs.Common.{bit_at_lowest, bit_at-suc, bit_at-lt, bit_at_and, bit_at_above, bit_at-trailing_zeros, bit_at, trailing_zeros}
use Rattle.first_pass_walk.proofs.Common.{cases_lt, cases_eq, is_marked, is_passed, AreWordStops, IsFirstStop, IsNextMarked, SparesWords}
use Rattle.std.proofs.lemmas.Nat.{div_below}
use Rattle.std.proofs.Math.Nat.{div-div-eq-div-mul}

pub if_none : {X P Q : Type 0} (o : Option X) → (P → Q) → IfNone o P → IfNone o Q
if_none None f h = f h
if_none (Some x) f h = tt

-- Subtracting one from a number leaves all its set bits except the lowest.
abbrev IsKeptOrLowest : ℕ → ℕ → Type 0
IsKeptOrLowest n k = (bit_at (n - 1) k ≡ 1) ⊎ ((i : ℕ) → i < k → bit_at n i ≡ 0)

kept_by : (n k d : ℕ) → n % 2 ≡ d → 0 < n → bit_at n (suc k) ≡ 1 → (0 < n / 2 → bit_at (n / 2) k ≡ 1 → IsKeptOrLowest (n / 2) k) → IsKeptOrLowest n (suc k)
kept_by n k (suc d) odd some set half = grind (arith, bit_at-suc)
kept_by n k zero even some set half =
    let less : (n - 1) / 2 ≡ n / 2 - 1 = omega arith in
    elim (half (omega arith) (sym (bit_at-suc n k) ∙ set)) [
      | inl kept ↦ inl (bit_at-suc (n - 1) k ∙ ap (λ x. bit_at x k) less ∙ kept)
      | inr none ↦ inr (below none)
    ]
  where
    below : ((i : ℕ) → i < k → bit_at (n / 2) i ≡ 0) → (i : ℕ) → i < suc k → bit_at n i ≡ 0
    below none zero l = bit_at_lowest n ∙ even
    below none (suc i) l = bit_at-suc n i ∙ none i (omega arith)

kept_or_lowest : (k n : ℕ) → 0 < n → bit_at n k ≡ 1 → IsKeptOrLowest n k
kept_or_lowest zero n some set = inr (λ i l. absurd (omega arith))
kept_or_lowest (suc k) n some set = kept_by n k (n % 2) refl some set (kept_or_lowest k (n / 2))

-- no bit below the lowest one is set
no_lower : (n s t : ℕ) → bit_at n s ≡ 1 → ((i : ℕ) → i < t → bit_at n i ≡ 0) → t ≤ s
no_lower n s t set none = grind (arith, cases_lt)

module _ (n : ℕ) (some : 0 < n) (fits : n < 2 ^ 64) where
  -- `n & (n - 1)` clears only the lowest set bit
  pub cleared : (k : ℕ) → bit_at (bit_and n (n - 1)) k ≡ 0 → (bit_at n k ≡ 0) ⊎ (k ≡ trailing_zeros w64 n)
  cleared k clear =
      elim (cases_eq (bit_at n k) 0) [
        | inl already ↦ inl already
        | inr other ↦
            let low = bit_at-trailing_zeros w64 n some fits in
            let set : bit_at n k ≡ 1 = omega (arith, bit_at-lt n k) in
            elim (kept_or_lowest k n some set) [
              | inl kept ↦ absurd (omega (arith, bit_at_and n (n - 1) k))
              | inr none ↦ inr (omega (arith, no_lower n k (trailing_zeros w64 n) set low.2, no_lower n (trailing_zeros w64 n) k low.1 none))
            ]
      ]

-- a set bit of a number below 2 ^ n is one of n
pub bit_below : (mask n k : ℕ) → mask < 2 ^ n → bit_at mask k ≡ 1 → k < n
bit_below mask n k small set = grind (arith, cases_lt, bit_at_above)

-- the same bit after a shift
pub shifted_bit : (mask s k : ℕ) → bit_at (mask / 2 ^ s) k ≡ bit_at mask (s + k)
shifted_bit mask s k = ap (λ n. n % 2) (div-div-eq-div-mul mask (2 ^ s) (2 ^ k) ∙ ap (λ n. mask / n) (sym (pow-add 2 s k)))

-- the mask of the bytes after the first s
pub shifted : (bytes : List ℕ) (at s n mask : ℕ) → AreWordStops bytes at (s + n) mask → AreWordStops bytes (at + s) n (mask / 2 ^ s)
shifted bytes at s n mask h =
    let turned : s + n ≡ n + s = omega arith in
    let fits : mask < 2 ^ n * 2 ^ s = subst (λ m. mask < m) (ap (λ m. 2 ^ m) turned ∙ pow-add 2 n s) h.within in
    record {
      within = div_below mask (2 ^ s) (2 ^ n) (pow_pos s) fits;
      stops = λ k less.
          let on : at + s + k ≡ at + (s + k) = omega arith in
          ap (λ i. is_passed (slice_index bytes i)) on ∙ h.stops (s + k) (omega (arith, less)) ∙ ap (λ b. b == 0) (sym (shifted_bit mask s k));
    }

-- the mask of what is left, fewer than 16 bytes, from that of the last 16
pub tail_stops : (bytes : List ℕ) (next last mask : ℕ) → last ≤ next → next ≤ last + 16 → AreWordStops bytes last 16 mask
    → AreWordStops bytes next (last + 16 - next) (mask / 2 ^ (next - last))
tail_stops bytes next last mask from to h =
    let s : ℕ = next - last in
    let n : ℕ = last + 16 - next in
    let whole : 16 ≡ s + n = omega (arith, from, to) in
    let there : last + s ≡ next = omega (arith, from) in
    subst (λ at. AreWordStops bytes at n (mask / 2 ^ s)) there (shifted bytes last s n mask (subst (λ m. AreWordStops bytes last m mask) whole h))

-- the places before an offset, and those from there on to another
pub unmarked_from : (lut : List Bool) (bytes : List ℕ) (ix next to : ℕ) → ((k : ℕ) → ix ≤ k → k < next → is_marked lut bytes k ≡ false)
    → ((k : ℕ) → next ≤ k → k < to → is_marked lut bytes k ≡ false) → (k : ℕ) → ix ≤ k → k < to → is_marked lut bytes k ≡ false
unmarked_from lut bytes ix next to before after k from less = grind (arith, cases_lt)

-- the next marked byte from an offset on is the next from an earlier one, if none is between
pub next_later : (lut : List Bool) (bytes : List ℕ) (ix next j : ℕ) → ix ≤ next → ((k : ℕ) → ix ≤ k → k < next → is_marked lut bytes k ≡ false)
    → IsNextMarked lut bytes next j → IsNextMarked lut bytes ix j
next_later lut bytes ix next j later before is = grind (arith, unmarked_from)

module _ (lut : List Bool) (bytes : List ℕ) (at n mask : ℕ)
    (spares : SparesWords lut) (stops : AreWordStops bytes at n mask) where
  -- no byte without a set bit is marked
  spared : (k : ℕ) → k < n → (bit_at mask k ≡ 1 → is_marked lut bytes (at + k) ≡ false) → is_marked lut bytes (at + k) ≡ false
  spared k less unless = grind (arith, cases_eq, bit_at-lt)

  pub none_marked : ((k : ℕ) → bit_at mask k ≡ 1 → is_marked lut bytes (at + k) ≡ false) → (k : ℕ) → at ≤ k → k < at + n → is_marked lut bytes k ≡ false
  none_marked none k from less =
      let back : at + (k - at) ≡ k = omega arith in
      subst (λ j. is_marked lut bytes j ≡ false) back (spared (k - at) (omega arith) (none (k - at)))

  pub first_is_next : (j : ℕ) → IsFirstStop lut bytes at mask j → IsNextMarked lut bytes at j
  first_is_next j first =
      let near : j - at < n = bit_below mask n (j - at) stops.within first.set in
      record {
        from = first.from;
        within = first.within;
        marked = first.marked;
        least = λ k from less.
            let back : at + (k - at) ≡ k = omega (arith, from) in
            let low : at + (k - at) < j = omega (arith, less) in
            subst (λ i. is_marked lut bytes i ≡ false) back (spared (k - at) (omega (arith, less, near, first.from)) (first.least (k - at) low));
      }
