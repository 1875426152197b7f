-- A delimiter run ends between two characters of the whole text.
use Rattle.std.proofs.Common.{ℕ, ◌≡◌, ◌+◌, ◌-◌, ◌≤◌, ◌<◌, ◌||◌, true, List, length, take, slice_index, Option, IsCharBoundary, IsUtf8, subst, arith}
use Rattle.std.proofs.Common.{length-take, get_or-take, take_all}
use Rattle.first_pass_tokens.proofs.Common.{cases_lt, cond_both, nat_tests, text_upto, is_delimiter, is_quote, IsCharBoundary-after_ascii}
use Rattle.first_pass_tokens.specs.Pieces.{run_size}
use Rattle.first_pass_tokens.proofs.PieceFacts.{IsVisible, run_same}

-- a byte of the first bytes of a text is a byte of the text
pub front_byte : (whole text : List ℕ) (k : ℕ) → text ≡ take (length text) whole → k < length text
    → (slice_index text k ≡ slice_index whole k) × (k < length whole)
front_byte whole text k front within = grind (arith, get_or-take, length-take)

-- a text up to an offset is the first bytes of the text, as many as it has
pub front_upto : (whole text : List ℕ) (end : Option ℕ) → text ≡ text_upto whole end → text ≡ take (length text) whole
front_upto whole text end is = grind (arith, take_all, length-take, cases_lt)

run_alike : (text : List ℕ) (at k : ℕ) → at ≤ k → k < at + run_size text at → slice_index text k ≡ slice_index text at
unfolding run_size
run_alike text at k low high = grind (arith, cond_both, run_same)

-- a run ends between two characters of the whole text
pub run_place : (whole text : List ℕ) (at n : ℕ) → IsUtf8 whole → text ≡ take (length text) whole
    → is_delimiter (slice_index text at) || is_quote (slice_index text at) ≡ true → n ≡ run_size text at → 0 < n → at + n ≤ length text
    → IsCharBoundary whole (at + n) × (at + n ≤ length whole)
run_place whole text at n utf8 front here run some fits =
    let byte : IsVisible (slice_index text at) = (grind (arith, nat_tests, here), grind (arith, nat_tests, here)) in
    let last = front_byte whole text (at + n - 1) front (omega arith) in
    let same = run_alike text at (at + n - 1) (omega arith) (omega (arith, run)) in
    let past : at + n - 1 + 1 ≡ at + n = omega arith in (
      subst (IsCharBoundary whole) past (IsCharBoundary-after_ascii whole (at + n - 1) utf8 last.1 (omega (arith, last.0, same, byte.1))),
      omega (arith, last.1),
    )
