-- The ranges of words, one after the other. In a text in UTF-8, the name and the value of an attribute begin and end on
-- character boundaries.
use Rattle.std.proofs.Common.{◌≡◌, ℕ, zero, suc, ◌+◌, ◌-◌, ◌<◌, ◌≤◌, ◌==◌, not, true, List, [], ◌∷◌, ◌++◌, All, length, drop, position, slice_index}
use Rattle.std.proofs.Common.{slice_index_or, Option, Some, None, IfSome, IsUtf8, IsCharBoundary, refl, subst, arith, inl, inr, slice_range, eqb-true}
use Rattle.std.proofs.Common.{length-drop, length-take, filter, take, sym, ap, ◌∙◌, append-nil, drop-drop}
use Rattle.first_pass_grammar.proofs.Common.{cond_both, prefix_len, option_map_or, Range, cases_lt, All-append, All-cons, All-map, All-nil}
use Rattle.first_pass_grammar.proofs.Common.{prefix_len-le-length, IsCharBoundary-after_ascii, number_sign, full_stop, equals_sign, ascii_end, Item}
use Rattle.first_pass_grammar.proofs.Common.{is_between_words, nat_tests, drop-take, length-map}
use Rattle.std.proofs.lemmas.List.Elements.{All-filter, All-same, filter-append}
use Rattle.std.proofs.lemmas.List.Quantifiers.{position-Some}
use Rattle.first_pass_attributes.proofs.WordFacts.{in_word, separator_is_ascii, stops, split-next, split-last}
use Rattle.first_pass_places.specs.declared.attributes.AttributeKind.TheVariants.{Key}
use Rattle.first_pass_places.specs.AttributeBlockPlaces.{attribute_block_range}
use Rattle.first_pass_places.specs.AttributePlaces.{range_of, is_word_range, word_range, word_ranges, place_of, key_with, attribute_place, places_in}
use Rattle.first_pass_places.specs.AttributePlaces.{attribute_ranges, ranges_from}
use Rattle.first_pass_places.specs.InfoStrings.{bytes_in}
use Rattle.first_pass_places.specs.RangeEnds.{EndsAreBoundaries, HasWholeCharacters}
use Rattle.first_pass_places.proofs.BlockPlaces.{is_in}
use Rattle.first_pass_places.proofs.RangeBoundaries.{around_ascii, attributes_between}
use Rattle.std.specs.List.{slice_split}

-- an empty range has no words
pub no_words : (text : List ℕ) (from end : ℕ) → end ≤ from → word_ranges text from end ≡ []
unfolding word_ranges
no_words text from end h = grind (arith, nat_tests)

-- the first word, and those after it
pub next_word : (text : List ℕ) (from end n : ℕ) → from < end → end ≤ length text
    → n ≡ prefix_len (λ b. not (is_between_words b)) (slice_range text from end)
    → word_ranges text from end ≡ word_range from (from + n) ++ word_ranges text (from + n + 1) end
unfolding word_ranges
next_word text from end n order within is =
    let bs : List ℕ = slice_range text from end in
    let fits = prefix_len-le-length in_word bs in
    let rest = length-drop from text in
    let whole : length bs ≡ end - from = (let cut = length-take (end - from) (drop from text) in omega (arith, cut, rest)) in
    let size : length (take n bs) ≡ n = (let cut = length-take n bs in omega (arith, cut, fits)) in
    elim (cases_lt n (length bs)) [
      | inl less ↦ (
          let later : List ℕ = drop (n + 1) bs in
          let ahead : n + 1 + (end - (from + n + 1)) ≡ end - from = omega (arith, whole) in
          let on : from + (n + 1) ≡ from + n + 1 = omega arith in
          let following : later ≡ slice_range text (from + n + 1) end =
          ap (λ m. drop (n + 1) (take m (drop from text))) (sym ahead) ∙ drop-take (n + 1) (end - (from + n + 1)) (drop from text)
          ∙ ap (take (end - (from + n + 1))) (drop-drop (n + 1) from text ∙ ap (λ m. drop m text) on) in
          ap (λ l. filter is_word_range (ranges_from from l)) (split-next bs n is less)
          ∙ ap (λ m. filter is_word_range (range_of from (from + m) ∷ ranges_from (from + m + 1) (slice_split is_between_words later))) size
          ∙ filter-append is_word_range (range_of from (from + n) ∷ []) (ranges_from (from + n + 1) (slice_split is_between_words later))
          ∙ ap (λ l. word_range from (from + n) ++ filter is_word_range (ranges_from (from + n + 1) (slice_split is_between_words l))) following)
      | inr past ↦ (
          let all : n ≡ length bs = omega (arith, past, fits) in
          ap (λ l. filter is_word_range (ranges_from from l)) (split-last bs n is all)
          ∙ ap (λ m. filter is_word_range (range_of from (from + m) ∷ [])) size
          ∙ sym (append-nil (word_range from (from + n)))
          ∙ ap (λ l. word_range from (from + n) ++ l) (sym (no_words text (from + n + 1) end (omega (arith, whole)))))
    ]

-- a range of two bytes or more gives one word range
pub one_word_range : (from next : ℕ) → from + 1 < next → length (word_range from next) ≡ 1
one_word_range from next h = grind (arith, nat_tests, h)

-- if a block has words of two bytes or more, the heading has attributes
pub words_are_places : (text : List ℕ) (x : Item) (block : Range ℕ) → attribute_block_range text x ≡ Some block
    → 0 < length (word_ranges text block.start block.«end») → 0 < length (attribute_ranges text x)
words_are_places text x block e some = grind (arith, length-map)

-- a word ends on a character boundary, and the next word begins on one
word_end : (text : List ℕ) (from end n : ℕ) → IsUtf8 text → IsCharBoundary text end → from < end
    → n ≡ prefix_len (λ b. not (is_between_words b)) (slice_range text from end)
    → IsCharBoundary text (from + n) × (from + n + 1 ≤ end → IsCharBoundary text (from + n + 1))
word_end text from end n u stop order size =
    let bs : List ℕ = slice_range text from end in
    let within = stop.0 in
    let fits = prefix_len-le-length in_word bs in
    let rest = length-drop from text in
    let whole : length bs ≡ end - from = (let cut = length-take (end - from) (drop from text) in omega (arith, cut, rest, within)) in
    elim (cases_lt n (length bs)) as (λ _. IsCharBoundary text (from + n) × (from + n + 1 ≤ end → IsCharBoundary text (from + n + 1))) [
      | inl less ↦ (
          let ends = around_ascii text from (end - from) n u less (separator_is_ascii (slice_index bs n) (stops bs n size less)) in
          (ends.0, λ more. ends.1))
      | inr past ↦ (
          let e : end ≡ from + n = omega (arith, past, whole, fits, size, order) in
          (subst (IsCharBoundary text) e stop, λ more. absurd (omega (arith, e, more))))
    ]

words_between : (fuel : ℕ) (text : List ℕ) (from end : ℕ) → IsUtf8 text → end ≤ from + fuel → IsCharBoundary text end
    → (from ≤ end → IsCharBoundary text from) → All (EndsAreBoundaries text) (word_ranges text from end)
words_between zero text from end u few stop start =
    All-same (EndsAreBoundaries text) (word_ranges text from end) [] (no_words text from end (omega (arith, few))) (All-nil (EndsAreBoundaries text))
words_between (suc fuel) text from end u few stop start =
    elim (cases_lt from end) as (λ _. All (EndsAreBoundaries text) (word_ranges text from end)) [
      | inl less ↦ (
          let n : ℕ = prefix_len (λ b. not (is_between_words b)) (slice_range text from end) in
          let ends = word_end text from end n u stop less refl in
          let first : All (EndsAreBoundaries text) (word_range from (from + n)) =
          All-filter is_word_range (EndsAreBoundaries text) (range_of from (from + n) ∷ [])
          (All-cons (EndsAreBoundaries text) (range_of from (from + n)) [] (start (omega (arith, less)), ends.0) (All-nil (EndsAreBoundaries text))) in
          let later = words_between fuel text (from + n + 1) end u (omega (arith, few)) stop ends.1 in
          All-same (EndsAreBoundaries text) (word_ranges text from end) (word_range from (from + n) ++ word_ranges text (from + n + 1) end)
          (next_word text from end n less stop.0 refl)
          (All-append (EndsAreBoundaries text) (word_range from (from + n)) (word_ranges text (from + n + 1) end) first later))
      | inr past ↦ All-same (EndsAreBoundaries text) (word_ranges text from end) [] (no_words text from end past) (All-nil (EndsAreBoundaries text))
    ]

-- after the sign of an id or a class
after_mark : (text : List ℕ) (range : Range ℕ) (c : ℕ) → IsUtf8 text → EndsAreBoundaries text range → (slice_index text range.start == c) ≡ true
    → 0 < c → c < ascii_end → EndsAreBoundaries text (range_of (range.start + 1) range.«end»)
after_mark text range c u h e some small =
    let here = eqb-true (slice_index text range.start) c e in
    (IsCharBoundary-after_ascii text range.start u (is_in text range.start c here some) (omega (arith, here, small)), h.1)

key_by : (text : List ℕ) (range : Range ℕ) (o : Option ℕ) → IsUtf8 text → EndsAreBoundaries text range
    → position (λ b. b == equals_sign) (bytes_in text range) ≡ o
    → HasWholeCharacters text (option_map_or (key_with range) o (place_of Key range))
key_by text range None u h e = (h, tt)
key_by text range (Some at) u h e =
    let found = position-Some (λ b. b == equals_sign) (bytes_in text range) at 0 e in
    let byte = eqb-true (slice_index (bytes_in text range) at) equals_sign found.1 in
    let ends = around_ascii text range.start (range.«end» - range.start) at u found.0 (omega (arith, byte)) in
    ((h.0, ends.0), (ends.1, h.1))

place_between : (text : List ℕ) (range : Range ℕ) → IsUtf8 text → EndsAreBoundaries text range → HasWholeCharacters text (attribute_place text range)
place_between text range u h =
    cond_both (slice_index text range.start == number_sign) _ _ (HasWholeCharacters text)
    (λ e. (after_mark text range number_sign u h e (omega arith) (omega arith), tt))
    (λ _. cond_both (slice_index text range.start == full_stop) _ _ (HasWholeCharacters text)
    (λ e. (after_mark text range full_stop u h e (omega arith) (omega arith), tt))
    (λ _. key_by text range (position (λ b. b == equals_sign) (bytes_in text range)) u h refl))

places_by : (text : List ℕ) (o : Option (Range ℕ)) → IsUtf8 text → IfSome o (λ range. EndsAreBoundaries text range)
    → All (HasWholeCharacters text) (option_map_or (places_in text) o [])
places_by text None u h = All-nil (HasWholeCharacters text)
places_by text (Some block) u h =
    let words : List (Range ℕ) = word_ranges text block.start block.«end» in
    let between = words_between block.«end» text block.start block.«end» u (omega arith) h.1 (λ order. h.0) in
    All-map (HasWholeCharacters text) (attribute_place text) words (λ k d less. place_between text (slice_index_or words k d) u (between k d less))

-- the attributes of a heading
pub places_between : (text : List ℕ) (x : Item) → IsUtf8 text → IsCharBoundary text x.start → All (HasWholeCharacters text) (attribute_ranges text x)
places_between text x u b = places_by text (attribute_block_range text x) u (attributes_between text x u b)
