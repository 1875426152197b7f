-- The first word of bytes, and where it ends.
use Rattle.std.proofs.Common.{◌≡◌, ℕ, ◌+◌, ◌-◌, ◌<◌, ◌≤◌, not, Bool, true, false, nat_lt, List, [], ◌∷◌, ◌++◌, length, filter, take, drop, get_or}
use Rattle.std.proofs.Common.{IsUtf8, IsCharBoundary, inl, inr, refl, sym, ap, subst, ◌∙◌, arith, All, get_or-take, take-append-drop, take_all, length-take}
use Rattle.std.proofs.Common.{length-take-le, length-drop}
use Rattle.std.specs.List.{slice_split, prefix_len}
use Rattle.std.proofs.lemmas.Bool.{cases_lt, not-true, not-false}
use Rattle.std.proofs.lemmas.Bool.Decides.{nat_tests}
use Rattle.std.proofs.lemmas.List.{drop_more, drop-take}
use Rattle.std.proofs.lemmas.List.Splits.{slice_split_none, slice_split_at}
use Rattle.std.proofs.lemmas.List.Sums.{prefix_len_is, prefix_len_passes, prefix_len_stops, prefix_len-le-length}
use Rattle.std.proofs.lemmas.Str.{IsCharBoundary-end, IsCharBoundary-before_ascii, IsCharBoundary-after_ascii}
use Rattle.first_pass_lines.specs.Lanes.{IsRunIn}
use Rattle.first_pass_attributes.specs.Attributes.{is_between_words, is_solid, is_attribute_word, words}

-- a byte of a word
abbrev pub in_word : ℕ → Bool
in_word b = not (is_between_words b)

pub separator_is_ascii : (b : ℕ) → is_between_words b ≡ true → b < 128
separator_is_ascii b h = grind (arith, nat_tests, h)

-- an empty part has no attribute, so it need not be left out
told : (x : List ℕ) (parts : List (List ℕ)) → filter is_attribute_word (filter (λ part. nat_lt 0 (length part)) (x ∷ parts))
    ≡ filter is_attribute_word (x ∷ filter (λ part. nat_lt 0 (length part)) parts)
told [] parts = refl
told (b ∷ bs) parts = grind (arith, nat_tests)

plain : (bs : List ℕ) (n : ℕ) → n ≡ prefix_len in_word bs → All (λ b. is_between_words b ≡ false) (take n bs)
plain bs n e k d l =
    let fits = prefix_len-le-length in_word bs in
    let low : k < n = omega (arith, length-take n bs) in
    ap is_between_words (get_or-take n bs k d low) ∙ not-true _ (prefix_len_passes in_word bs k d (omega (arith, e, low)))

-- the byte after a word is between words
pub stops : (bs : List ℕ) (n : ℕ) → n ≡ prefix_len in_word bs → n < length bs → is_between_words (get_or bs n 0) ≡ true
stops bs n e less = not-false _ (ap (λ k. in_word (get_or bs k 0)) e ∙ prefix_len_stops in_word bs 0 (omega (arith, e, less)))

-- the first part of bytes, and those after it
pub split-next : (bs : List ℕ) (n : ℕ) → n ≡ prefix_len in_word bs → n < length bs
    → slice_split is_between_words bs ≡ take n bs ∷ slice_split is_between_words (drop (n + 1) bs)
split-next bs n e less =
    let b : ℕ = get_or bs n 0 in
    let later : List ℕ = drop (n + 1) bs in
    let parts : bs ≡ take n bs ++ b ∷ later = sym (take-append-drop n bs) ∙ ap (λ l. take n bs ++ l) (drop_more bs n 0 less) in
    ap (slice_split is_between_words) parts ∙ slice_split_at is_between_words (take n bs) b later (plain bs n e) (stops bs n e less)

pub split-last : (bs : List ℕ) (n : ℕ) → n ≡ prefix_len in_word bs → n ≡ length bs → slice_split is_between_words bs ≡ take n bs ∷ []
split-last bs n e all =
    let same : take n bs ≡ bs = take_all n bs (omega (arith, all)) in
    ap (slice_split is_between_words) (sym same) ∙ slice_split_none is_between_words (take n bs) (plain bs n e)

-- the words with attributes are the first part, if it is one, and those after it
pub words-next : (bs : List ℕ) (n : ℕ) → n ≡ prefix_len in_word bs → n < length bs
    → filter is_attribute_word (words bs) ≡ filter is_attribute_word (take n bs ∷ words (drop (n + 1) bs))
unfolding words
words-next bs n e less = grind (arith, split-next, told)

pub words-last : (bs : List ℕ) (n : ℕ) → n ≡ prefix_len in_word bs → n ≡ length bs
    → filter is_attribute_word (words bs) ≡ filter is_attribute_word (take n bs ∷ [])
unfolding words
words-last bs n e all = grind (arith, split-last, told)

solid_in_word : (b : ℕ) → is_solid b ≡ true → in_word b ≡ true
solid_in_word b h = grind (arith, nat_tests, h)

-- of 16 bytes the first ones are above the space: up to a limit, or to a byte between words, these are all bytes of a word
pub solid-to : (bs : List ℕ) (limit run n : ℕ) → limit ≤ length bs → IsRunIn is_solid bs 0 16 run → n ≤ run → n ≤ limit
    → (n < limit → is_between_words (get_or bs n 0) ≡ true) → n ≡ prefix_len in_word (take limit bs)
solid-to bs limit run n within is low short gap =
    let size : length (take limit bs) ≡ limit = length-take-le limit bs within in
    sym (prefix_len_is in_word (take limit bs) n 0 (omega (arith, size))
    (λ k l. ap in_word (get_or-take limit bs k 0 (omega arith)) ∙ solid_in_word (get_or bs k 0) (is.1 k (omega arith) (omega arith)))
    (λ l.
    let less : n < limit = omega (arith, size, l) in
    ap in_word (get_or-take limit bs n 0 less) ∙ ap not (gap less)))

-- what begins the bytes ahead still does without a word and the byte after it
pub ahead-next : (bs ahead : List ℕ) (n : ℕ) → bs ≡ take (length bs) ahead → length bs ≤ length ahead → n < length bs
    → drop (n + 1) bs ≡ take (length (drop (n + 1) bs)) (drop (n + 1) ahead)
ahead-next bs ahead n is long less =
    let left : length (drop (n + 1) bs) ≡ length bs - (n + 1) = length-drop (n + 1) bs in
    let parts : n + 1 + (length bs - (n + 1)) ≡ length bs = omega arith in
    ap (drop (n + 1)) (is ∙ ap (λ k. take k ahead) (sym parts)) ∙ drop-take (n + 1) (length bs - (n + 1)) ahead
    ∙ ap (λ k. take k (drop (n + 1) ahead)) (sym left)

-- what begins the bytes ahead is not longer than they are
pub ahead-long : (bs ahead : List ℕ) → bs ≡ take (length bs) ahead → length bs ≤ length ahead
ahead-long bs ahead is = let size = ap length is ∙ length-take (length bs) ahead in omega (arith, size)

-- a word ends on a character boundary, and the next one begins on one
pub word-end : (bs : List ℕ) (n : ℕ) → n ≡ prefix_len in_word bs → IsCharBoundary bs n
word-end bs n e =
    elim (cases_lt n (length bs)) as (λ _. IsCharBoundary bs n) [
      | inl less ↦ IsCharBoundary-before_ascii bs n less (separator_is_ascii (get_or bs n 0) (stops bs n e less))
      | inr past ↦ (
          let all : length bs ≡ n = omega (arith, past, prefix_len-le-length in_word bs, e) in
          subst (IsCharBoundary bs) all (IsCharBoundary-end bs))
    ]

pub word-start : (bs : List ℕ) (n : ℕ) → n ≡ prefix_len in_word bs → IsUtf8 bs → n < length bs → IsCharBoundary bs (n + 1)
word-start bs n e utf8 less = IsCharBoundary-after_ascii bs n utf8 less (separator_is_ascii (get_or bs n 0) (stops bs n e less))
