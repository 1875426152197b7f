-- The last byte that breaks a block, found 16 bytes at a time.
use Rattle.std.proofs.Common.{◌≡◌, ℕ, zero, suc, ◌+◌, ◌-◌, ◌%◌, ◌*◌, ◌^◌, ◌<◌, ◌≤◌, ◌==◌, true, List, length, take, get_or, inl, inr, sym, ap, subst, ◌∙◌}
use Rattle.std.proofs.Common.{arith, take_all}
use Rattle.std.specs.Int.{bit_at}
use Rattle.std.specs.List.{suffix_len}
use Rattle.std.proofs.lemmas.Bool.{cases_lt}
use Rattle.std.proofs.lemmas.List.Sums.{suffix_len_is, suffix_len-take_yes}
use Rattle.std.proofs.lemmas.Nat.{div_below, le-div}
use Rattle.std.proofs.lemmas.Nat.Bits.{bit_at_above, bit_at-zero}
use native.Mathlib.Nat.{pow-suc}
use Rattle.first_pass_attributes.specs.AttributeBlocks.{is_inside_block}

one_is_odd : (n : ℕ) → 1 ≤ n → n < 2 → n % 2 ≡ 1
one_is_odd n some few = omega arith

-- the highest bit of a mask is set
highest : (mask top : ℕ) → 2 ^ top ≤ mask → mask < 2 * 2 ^ top → bit_at mask top ≡ 1
highest mask top from below = grind (arith, one_is_odd, le-div, div_below)

-- the highest bit of a mask of 16 bytes is one of 16
pub top-low : (mask top : ℕ) → mask < 2 ^ 16 → 2 ^ top ≤ mask → mask < 2 * 2 ^ top → top < 16
top-low mask top small from below =
    elim (cases_lt top 16) [
      | inl low ↦ low
      | inr high ↦ absurd (omega (arith, bit_at_above mask 16 top small high, highest mask top from below))
    ]

-- of 16 bytes, those whose bit is set break a block; none after the 16 breaks it
module _ (bytes : List ℕ) (at mask : ℕ) (breaks : (k : ℕ) → k < 16 → is_inside_block (get_or bytes (at + k) 0) ≡ (bit_at mask k == 0))
    (after : (k : ℕ) → at + 16 ≤ k → k < length bytes → is_inside_block (get_or bytes k 0) ≡ true) where
  after-clear : (n : ℕ) → ((k : ℕ) → n ≤ k → bit_at mask k ≡ 0) → (k : ℕ) → at + n ≤ k → k < length bytes → is_inside_block (get_or bytes k 0) ≡ true
  after-clear n clear k from within =
      elim (cases_lt k (at + 16)) as (λ _. is_inside_block (get_or bytes k 0) ≡ true) [
        | inl near ↦ (
            let back : at + (k - at) ≡ k = omega (arith, from) in
            subst (λ i. is_inside_block (get_or bytes i 0) ≡ true) back
            (breaks (k - at) (omega (arith, near, from)) ∙ ap (λ b. b == 0) (clear (k - at) (omega (arith, from)))))
        | inr far ↦ after k far within
      ]

  -- no bit is set
  pub after-none : mask ≡ 0 → (k : ℕ) → at ≤ k → k < length bytes → is_inside_block (get_or bytes k 0) ≡ true
  after-none none k from within = after-clear 0 (λ j _. ap (λ m. bit_at m j) none ∙ bit_at-zero j) k (omega (arith, from)) within

  -- the last byte that breaks a block is that of the highest bit
  pub after-break : (top : ℕ) → at + 16 ≤ length bytes → mask < 2 ^ 16 → 2 ^ top ≤ mask → mask < 2 * 2 ^ top
      → suffix_len is_inside_block bytes ≡ length bytes - (at + top + 1)
  after-break top room small from below =
      let low : top < 16 = top-low mask top small from below in
      let up : top + 1 ≡ suc top = omega arith in
      let twice : 2 ^ (top + 1) ≡ 2 ^ top * 2 = ap (λ n. 2 ^ n) up ∙ pow-suc 2 top in
      let fits : mask < 2 ^ (top + 1) = omega (arith, twice, below) in
      suffix_len_is is_inside_block bytes (at + top + 1) 0 (omega (arith, low, room))
      (λ k past. after-clear (top + 1) (λ j. bit_at_above mask (top + 1) j fits) k (omega (arith, past)))
      (λ _.
      let last : at + top + 1 - 1 ≡ at + top = omega arith in
      ap (λ i. is_inside_block (get_or bytes i 0)) last ∙ breaks top low ∙ ap (λ b. b == 0) (highest mask top from below))

kept-on : (bytes : List ℕ) (at n : ℕ) → at + n ≤ length bytes → ((k : ℕ) → at ≤ k → k < at + n → is_inside_block (get_or bytes k 0) ≡ true)
    → suffix_len is_inside_block (take (at + n) bytes) ≡ n + suffix_len is_inside_block (take at bytes)
kept-on bytes at zero room inside = grind arith
kept-on bytes at (suc n) room inside =
    let last : at + suc n - 1 ≡ at + n = omega arith in
    let passes = ap (λ i. is_inside_block (get_or bytes i 0)) last ∙ inside (at + n) (omega arith) (omega arith) in
    let one = suffix_len-take_yes is_inside_block bytes (at + suc n) 0 (omega arith) room passes in
    let less = ap (λ m. suffix_len is_inside_block (take m bytes)) last in
    let rest = kept-on bytes at n (omega (arith, room)) (λ k from to. inside k from (omega (arith, to))) in
    omega (arith, one, less, rest)

-- no byte from an offset on breaks a block
pub before-kept : (bytes : List ℕ) (at : ℕ) → at ≤ length bytes → ((k : ℕ) → at ≤ k → k < length bytes → is_inside_block (get_or bytes k 0) ≡ true)
    → suffix_len is_inside_block bytes ≡ length bytes - at + suffix_len is_inside_block (take at bytes)
before-kept bytes at within inside =
    let n : ℕ = length bytes - at in
    let whole : at + n ≡ length bytes = omega (arith, within) in
    let all : take (at + n) bytes ≡ bytes = ap (λ m. take m bytes) whole ∙ take_all (length bytes) bytes (omega arith) in
    sym (ap (suffix_len is_inside_block) all) ∙ kept-on bytes at n (omega (arith, whole)) (λ k from to. inside k from (omega (arith, to, whole)))
