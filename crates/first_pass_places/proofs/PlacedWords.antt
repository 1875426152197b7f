-- The attributes that `attributes_from_places` reads at the ranges from `attribute_ranges` are those of the words of
-- the block.
use Rattle.std.proofs.Common.{◌≡◌, ℕ, ◌+◌, ◌-◌, ◌<◌, ◌≤◌, ◌==◌, cond, Bool, true, false, nat_lt, List, [], ◌∷◌, ◌++◌, All, length, take, drop, map}
use Rattle.std.proofs.Common.{filter, position, slice_index, Option, Some, None, refl, sym, ap, subst, ◌∙◌, arith, slice_range, eqb-true, le-ltb}
use Rattle.std.proofs.Common.{ltb-false, ltb-true, drop-drop, take-append-drop, take-take}
use Rattle.first_pass_grammar.proofs.Common.{option_map_or, Range, cases_Bool, cond_both, nat_tests, drop-take, All-head, All-tail, number_sign, full_stop}
use Rattle.first_pass_grammar.proofs.Common.{equals_sign, Item, begins, is_between_words, no_attributes, attributes_of}
use Rattle.std.specs.List.{slice_split, onto_first}
use Rattle.std.proofs.lemmas.List.Elements.{filter_passes}
use Rattle.std.proofs.lemmas.List.Quantifiers.{position-Some}
use Rattle.first_pass_attributes.specs.Attributes.{is_attribute_word, words, marked, gives_key, key_and_value, with_words}
use Rattle.first_pass_links.proofs.Labels.{begins-first}
use Rattle.first_pass_places.specs.declared.attributes.AttributeKind.TheVariants.{Key}
use Rattle.first_pass_places.specs.declared.attributes.AttributeRanges.{AttributeRanges}
use Rattle.first_pass_places.specs.AttributeBlockPlaces.{attribute_block_range}
use Rattle.first_pass_places.specs.AttributePlaces.{range_of, is_word_range, ranges_from, word_ranges, place_of, key_with, key_place, attribute_place}
use Rattle.first_pass_places.specs.AttributePlaces.{places_in, attribute_ranges}
use Rattle.first_pass_places.specs.InfoStrings.{bytes_in}
use Rattle.first_pass_places.specs.PlacedAttributes.{is_id, is_class, is_key, name_at, key_at, attributes_from_places}
use Rattle.first_pass_places.proofs.BlockPlaces.{part_at, part_short}

-- the ids, the classes and the keys at places
abbrev ids_at : List ℕ → List AttributeRanges → List (List ℕ)
ids_at text places = map (name_at text) (filter (λ place. is_id place.kind) places)

abbrev classes_at : List ℕ → List AttributeRanges → List (List ℕ)
classes_at text places = map (name_at text) (filter (λ place. is_class place.kind) places)

abbrev keys_at : List ℕ → List AttributeRanges → List (List ℕ × Option (List ℕ))
keys_at text places = map (key_at text) (filter (λ place. is_key place.kind) places)

-- the ids, classes and keys at these places are those of these words
record AreSame (text : List ℕ) (places : List AttributeRanges) (ws : List (List ℕ)) : Type 0 where
  ids : ids_at text places ≡ marked number_sign ws
  classes : classes_at text places ≡ marked full_stop ws
  keys : keys_at text places ≡ map key_and_value (filter gives_key ws)

-- the last bytes, and the first bytes, of a part of a text
later_bytes : (text : List ℕ) (s e k : ℕ) → s + k ≤ e → bytes_in text (range_of (s + k) e) ≡ drop k (slice_range text s e)
later_bytes text s e k fits =
    let whole : e - s ≡ k + (e - (s + k)) = omega (arith, fits) in
    sym (ap (λ n. drop k (take n (drop s text))) whole ∙ drop-take k (e - (s + k)) (drop s text) ∙ ap (take (e - (s + k))) (drop-drop k s text))

first_bytes : (text : List ℕ) (s e k : ℕ) → s + k ≤ e → bytes_in text (range_of s (s + k)) ≡ take k (slice_range text s e)
first_bytes text s e k fits =
    let size : s + k - s ≡ k = omega arith in
    ap (λ n. take n (drop s text)) size ∙ sym (take-take k (e - s) (drop s text) (omega (arith, fits)))

-- a key, with or without a value
pair_by : (text : List ℕ) (range : Range ℕ) (o : Option ℕ) → position (λ b. b == equals_sign) (bytes_in text range) ≡ o
    → let word : List ℕ = bytes_in text range in
    key_at text (option_map_or (key_with range) o (place_of Key range)) ≡ option_map_or (λ at. (take at word, Some (drop (at + 1) word))) o (word, None)
pair_by text range None e = refl
pair_by text range (Some at) e =
    let word : List ℕ = bytes_in text range in
    let start : ℕ = range.start in
    let less = (position-Some (λ b. b == equals_sign) word at 0 e).0 in
    let short = part_short text start (range.«end» - start) in
    let next : start + at + 1 ≡ start + (at + 1) = omega arith in
    let name = first_bytes text start range.«end» at (omega (arith, less, short)) in
    let value = ap (λ n. bytes_in text (range_of n range.«end»)) next ∙ later_bytes text start range.«end» (at + 1) (omega (arith, less, short)) in
    ap (λ (l : List ℕ). (l, Some (bytes_in text (range_of (start + at + 1) range.«end»)))) name ∙ ap (λ (l : List ℕ). (take at word, Some l)) value

pair_is : (text : List ℕ) (range : Range ℕ) → key_at text (key_place text range) ≡ key_and_value (bytes_in text range)
unfolding key_and_value
pair_is text range = pair_by text range (position (λ b. b == equals_sign) (bytes_in text range)) refl

kind_by : (range : Range ℕ) (o : Option ℕ) → (option_map_or (key_with range) o (place_of Key range)).kind ≡ Key
kind_by range None = refl
kind_by range (Some at) = refl

-- one word more
more_same : (text : List ℕ) (range : Range ℕ) (places : List AttributeRanges) (ws : List (List ℕ)) → range.start + 1 < range.«end» → AreSame text places ws
    → AreSame text (attribute_place text range ∷ places) (bytes_in text range ∷ ws)
more_same text range places ws order same =
    let word : List ℕ = bytes_in text range in
    let b : ℕ = slice_index text range.start in
    let place : range.start + 0 ≡ range.start = omega arith in
    let first : slice_index word 0 ≡ b = part_at text range.start (range.«end» - range.start) 0 (omega (arith, order)) ∙ ap (slice_index text) place in
    let name = later_bytes text range.start range.«end» 1 (omega (arith, order)) in
    let kind : (key_place text range).kind ≡ Key = kind_by range (position (λ b. b == equals_sign) word) in
    let sign : begins number_sign word ≡ (b == number_sign) = begins-first number_sign refl word ∙ ap (λ k. k == number_sign) first in
    let stop : begins full_stop word ≡ (b == full_stop) = begins-first full_stop refl word ∙ ap (λ k. k == full_stop) first in
    let P : AttributeRanges → Type 0 = λ place. AreSame text (place ∷ places) (word ∷ ws) in
    cond_both (b == number_sign) _ _ P
    (λ t.
    let other : begins full_stop word ≡ false = stop ∙ ap (λ k. k == full_stop) (eqb-true b number_sign t) in
    record {
      ids = rw (sign ∙ t) (ap (λ (l : List ℕ). l ∷ ids_at text places) name ∙ ap (λ (ls : List (List ℕ)). drop 1 word ∷ ls) same.ids);
      classes = rw other same.classes;
      keys = rw (sign ∙ t) same.keys;
    })
    (λ f. cond_both (b == full_stop) _ _ P
    (λ t. record {
      ids = rw (sign ∙ f) same.ids;
      classes = rw (stop ∙ t) (ap (λ (l : List ℕ). l ∷ classes_at text places) name ∙ ap (λ (ls : List (List ℕ)). drop 1 word ∷ ls) same.classes);
      keys = rw (sign ∙ f, stop ∙ t) same.keys;
    })
    (λ v. record {
      ids = rw (kind, sign ∙ f) same.ids;
      classes = rw (kind, stop ∙ v) same.classes;
      keys = rw (kind, sign ∙ f, stop ∙ v) (ap (λ (x : List ℕ × Option (List ℕ)). x ∷ keys_at text places) (pair_is text range)
          ∙ ap (λ (xs : List (List ℕ × Option (List ℕ))). key_and_value word ∷ xs) same.keys);
    }))

all_same : (text : List ℕ) (ranges : List (Range ℕ)) → All (λ range. is_word_range range ≡ true) ranges
    → AreSame text (map (attribute_place text) ranges) (map (bytes_in text) ranges)
all_same text [] h = record { ids = refl; classes = refl; keys = refl }
all_same text (range ∷ ranges) h =
    let first = ltb-true (range.start + 1) range.«end» (All-head (λ r. is_word_range r ≡ true) range ranges h) in
    let later = all_same text ranges (All-tail (λ r. is_word_range r ≡ true) range ranges h) in
    more_same text range (map (attribute_place text) ranges) (map (bytes_in text) ranges) first later

-- parts of a text follow one another from an offset on, with a byte between two parts
abbrev AreAt : List ℕ → ℕ → List (List ℕ) → Type 0
AreAt text at [] = Unit {0}
AreAt text at (part ∷ parts) = (take (length part) (drop at text) ≡ part) × AreAt text (at + length part + 1) parts

step_at : (text rest : List ℕ) (at b : ℕ) (t : Bool) (parts : List (List ℕ)) → drop at text ≡ b ∷ rest → drop (at + 1) text ≡ rest → AreAt text (at + 1) parts
    → AreAt text at (cond t ([] ∷ parts) (onto_first b parts))
step_at text rest at b true parts e f h = grind arith
step_at text rest at b false [] e f h = (ap (take 1) e, tt)
step_at text rest at b false (part ∷ parts) e f h = grind arith

split_at : (text : List ℕ) (at : ℕ) (bs tail : List ℕ) → drop at text ≡ bs ++ tail → AreAt text at (slice_split is_between_words bs)
split_at text at [] tail e = (refl, tt)
split_at text at (b ∷ bs) tail e =
    let next : drop (at + 1) text ≡ bs ++ tail = sym (drop-drop 1 at text) ∙ ap (drop 1) e in
    step_at text (bs ++ tail) at b (is_between_words b) (slice_split is_between_words bs) e next (split_at text (at + 1) bs tail next)

-- their ranges have their bytes
chosen : (f : Range ℕ → List ℕ) (range : Range ℕ) (part : List ℕ) (ranges : List (Range ℕ)) (parts : List (List ℕ)) (t : Bool) → f range ≡ part
    → map f ranges ≡ parts → map f (cond t (range ∷ ranges) ranges) ≡ cond t (part ∷ parts) parts
chosen f range part ranges parts true e h = ap (λ (l : List ℕ). l ∷ map f ranges) e ∙ ap (λ (ls : List (List ℕ)). part ∷ ls) h
chosen f range part ranges parts false e h = h

ranges_have : (text : List ℕ) (at : ℕ) (parts : List (List ℕ)) → AreAt text at parts
    → map (bytes_in text) (filter is_word_range (ranges_from at parts)) ≡ filter is_attribute_word parts
ranges_have text at [] h = refl
ranges_have text at (part ∷ parts) h =
    let n : ℕ = length part in
    let range : Range ℕ = range_of at (at + n) in
    let ranges : List (Range ℕ) = filter is_word_range (ranges_from (at + n + 1) parts) in
    let size : at + n - at ≡ n = omega arith in
    let bytes : bytes_in text range ≡ part = ap (λ k. take k (drop at text)) size ∙ h.0 in
    let long : nat_lt (at + 1) (at + n) ≡ nat_lt 1 n = grind (arith, nat_tests) in
    ap (λ t. map (bytes_in text) (cond t (range ∷ ranges) ranges)) long
    ∙ chosen (bytes_in text) range part ranges (filter is_attribute_word parts) (is_attribute_word part) bytes (ranges_have text (at + n + 1) parts h.1)

-- dropping empty parts first does not change which words have two bytes or more
filter_twice : (p q : List ℕ → Bool) → ((x : List ℕ) → q x ≡ false → p x ≡ false) → (xs : List (List ℕ)) → filter p (filter q xs) ≡ filter p xs
filter_twice p q none [] = refl
filter_twice p q none (x ∷ xs) = grind (arith, cases_Bool, filter_twice p q none xs)

some_long : (n : ℕ) → nat_lt 0 n ≡ false → nat_lt 1 n ≡ false
some_long n e = let none = ltb-false 0 n e in le-ltb 1 n (omega (arith, none))

-- the attributes of the words
same_attributes : (text : List ℕ) (places : List AttributeRanges) (ws : List (List ℕ)) → AreSame text places ws
    → attributes_from_places text places ≡ with_words no_attributes ws
unfolding with_words
same_attributes text places ws same = grind arith

block_attributes : (text : List ℕ) (block : Range ℕ) → attributes_from_places text (places_in text block) ≡ attributes_of (bytes_in text block)
unfolding attributes_of words word_ranges
block_attributes text block =
    let bs : List ℕ = bytes_in text block in
    let rest : List ℕ = drop block.start text in
    let size : ℕ = block.«end» - block.start in
    let parts : List (List ℕ) = slice_split is_between_words bs in
    let ranges : List (Range ℕ) = filter is_word_range (ranges_from block.start parts) in
    let ws : List (List ℕ) = filter is_attribute_word parts in
    let at : AreAt text block.start parts = split_at text block.start bs (drop size rest) (sym (take-append-drop size rest)) in
    let same : AreSame text (map (attribute_place text) ranges) ws =
    subst (AreSame text (map (attribute_place text) ranges)) (ranges_have text block.start parts at)
    (all_same text ranges (filter_passes is_word_range (ranges_from block.start parts))) in
    let long = filter_twice is_attribute_word (λ part. nat_lt 0 (length part)) (λ part. some_long (length part)) parts in
    same_attributes text (map (attribute_place text) ranges) ws same ∙ ap (with_words no_attributes) (sym long)

-- the attributes of a heading
pub placed_attributes : (text : List ℕ) (x : Item) (block : Range ℕ) → attribute_block_range text x ≡ Some block
    → attributes_from_places text (attribute_ranges text x) ≡ attributes_of (bytes_in text block)
placed_attributes text x block e = grind (arith, block_attributes)
