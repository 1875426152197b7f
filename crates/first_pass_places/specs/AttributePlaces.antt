-- Where the attributes in the attribute block of a heading are written (this project).
use Rattle.std.specs.Prelude.{ℕ, ◌+◌, ◌==◌, Bool, List, [], ◌∷◌, length, map, filter, Some, None, nat_lt, slice_index, if◌then◌else◌}
use Rattle.std.specs.List.{slice_range, slice_split, position}
use Rattle.std.specs.Option.{option_map_or}
use Rattle.std.specs.declared.ops.Range.{Range}
use Rattle.first_pass_items.specs.Bytes.{number_sign, full_stop, equals_sign}
use Rattle.first_pass_items.specs.declared.item.Item.{Item}
use Rattle.first_pass_attributes.specs.Attributes.{is_between_words}
use Rattle.first_pass_places.specs.declared.attributes.AttributeKind.{AttributeKind}
use Rattle.first_pass_places.specs.declared.attributes.AttributeKind.TheVariants.{Id, Class, Key}
use Rattle.first_pass_places.specs.declared.attributes.AttributeRanges.{AttributeRanges}
use Rattle.first_pass_places.specs.AttributeBlockPlaces.{attribute_block_range}
use Rattle.first_pass_places.specs.InfoStrings.{bytes_in}

-- the range from one offset up to another (this project)
abbrev pub range_of : ℕ → ℕ → Range ℕ
range_of start «end» = record { start = start; «end» = «end» }

-- a range has two bytes or more: a word with an attribute (this project)
abbrev pub is_word_range : Range ℕ → Bool
is_word_range range = nat_lt (range.start + 1) range.«end»

-- the range between two offsets, if it has two bytes or more (this project)
abbrev pub word_range : ℕ → ℕ → List (Range ℕ)
word_range start «end» = filter is_word_range (range_of start «end» ∷ [])

-- the ranges of parts that follow one another from an offset on, with a byte between two parts (this project)
abbrev pub ranges_from : ℕ → List (List ℕ) → List (Range ℕ)
ranges_from at [] = []
ranges_from at (part ∷ parts) = range_of at (at + length part) ∷ ranges_from (at + length part + 1) parts

-- the ranges of the words of two bytes or more between two offsets (this project)
unfoldable pub word_ranges : List ℕ → ℕ → ℕ → List (Range ℕ)
word_ranges text start «end» = filter is_word_range (ranges_from start (slice_split is_between_words (slice_range text start «end»)))

-- an attribute of a kind without a value, in a range (this project)
abbrev pub place_of : AttributeKind → Range ℕ → AttributeRanges
place_of kind range = record { kind = kind; name = range; value = None }

-- the ranges of a key and its value in a range; a `=` after `at` bytes separates them (this project)
abbrev pub key_with : Range ℕ → ℕ → AttributeRanges
key_with range at = record {
  kind = Key;
  name = range_of range.start (range.start + at);
  value = Some (range_of (range.start + at + 1) range.«end»);
}

-- the ranges of a key, up to the first `=` in a range, and of its value, if there is a `=` (this project)
abbrev pub key_place : List ℕ → Range ℕ → AttributeRanges
key_place text range = option_map_or (key_with range) (position (λ b. b == equals_sign) (bytes_in text range)) (place_of Key range)

-- the ranges of the attribute of a word in a range: `#` begins an id, and `.` a class (this project)
abbrev pub attribute_place : List ℕ → Range ℕ → AttributeRanges
attribute_place text range =
    if slice_index text range.start == number_sign
    then place_of Id (range_of (range.start + 1) range.«end»)
    else (if slice_index text range.start == full_stop then place_of Class (range_of (range.start + 1) range.«end») else key_place text range)

-- the ranges of the attributes in a range, in the order of the text (this project)
abbrev pub places_in : List ℕ → Range ℕ → List AttributeRanges
places_in text range = map (attribute_place text) (word_ranges text range.start range.«end»)

-- the ranges of the attributes of a heading; none for any other node, and without an attribute block (this project)
abbrev pub attribute_ranges : List ℕ → Item → List AttributeRanges
attribute_ranges text x = option_map_or (places_in text) (attribute_block_range text x) []
