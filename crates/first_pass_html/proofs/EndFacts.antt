-- Facts on the search for an end tag of raw text.
use Rattle.std.proofs.Common.{◌≡◌, ℕ, zero, suc, ◌<◌, ◌≤◌, Bool, true, false, ◌==◌, ◌||◌, List, [], ◌∷◌, length, drop, get_or, refl, ap, ◌∙◌, arith}
use Rattle.std.specs.Char.{to_ascii_lowercase}
use Rattle.std.proofs.lemmas.Bool.{false_from_ne_true}
use Rattle.std.proofs.lemmas.Bool.Decides.{nat_tests}
use Rattle.memchr.specs.Find.{is_byte}
use Rattle.first_pass_items.specs.Bytes.{less_than}
use Rattle.first_pass_html.specs.Ends.{begins_raw_end_tag, holds_raw_end_tag}

-- an end tag begins with `<`
lower_other : (b : ℕ) → (b == less_than) ≡ false → (to_ascii_lowercase b == less_than) ≡ false
lower_other b other = grind (arith, nat_tests, other)

none_here : (b : ℕ) (bs : List ℕ) → (b == less_than) ≡ false → begins_raw_end_tag (b ∷ bs) ≡ false
unfolding begins_raw_end_tag
none_here b bs other = rw (lower_other b other) refl

abbrev NoneUpTo : List ℕ → ℕ → Type 0
NoneUpTo bs n = (k : ℕ) → 0 ≤ k → k < n → ¬ (is_byte less_than (get_or bs k 0) ≡ true)

-- bytes without `<` contain no end tag
pub none_held : (bs : List ℕ) → NoneUpTo bs (length bs) → holds_raw_end_tag bs ≡ false
unfolding holds_raw_end_tag
none_held [] none = refl
none_held (b ∷ bs) none =
    ap (λ t. t || holds_raw_end_tag bs) (none_here b bs (false_from_ne_true (b == less_than) (none 0 (omega arith) (omega arith))))
    ∙ none_held bs (λ k low high. none (suc k) (omega arith) (omega arith))

-- an end tag is at the first `<`, or after it, or there is none
pub next_held : (bs : List ℕ) (at : ℕ) (t : Bool) → at < length bs → NoneUpTo bs at → is_byte less_than (get_or bs at 0) ≡ true
    → begins_raw_end_tag (less_than ∷ drop (suc at) bs) ≡ t → holds_raw_end_tag bs ≡ (t || holds_raw_end_tag (drop (suc at) bs))
unfolding holds_raw_end_tag
next_held [] at t within none here is = absurd (omega arith)
next_held (b ∷ bs) zero t within none here is = grind arith
next_held (b ∷ bs) (suc at) t within none here is =
    ap (λ u. u || holds_raw_end_tag bs) (none_here b bs (false_from_ne_true (b == less_than) (none 0 (omega arith) (omega arith))))
    ∙ next_held bs at t (omega arith) (λ k low high. none (suc k) (omega arith) (omega arith)) here is
