-- The attributes in an attribute block: `#install` is an id, `.wide` a class, and `lang=en` and `draft` are keys
-- (this project).
use Rattle.std.specs.Prelude.{◌⊎◌, ℕ, ◌+◌, ◌<◌, ◌==◌, ◌||◌, not, Bool, List, [], ◌∷◌, ◌++◌, length, map, filter, take, drop, Option, Some, None, nat_lt}
use Rattle.std.specs.Option.{option_map, option_map_or}
use Rattle.std.specs.List.{slice_split, position}
use Rattle.std.specs.Borrow.{Bor}
use Rattle.first_pass_items.specs.Bytes.{tab, form_feed, space, number_sign, full_stop, equals_sign}
use Rattle.first_pass_lines.specs.Lines.{is_line_end, begins}
use Rattle.first_pass_attributes.specs.declared.heading_attributes.HeadingAttributes.{HeadingAttributes}

-- a byte between words: tab, 0x0C, space or a line ending (this project)
abbrev pub is_between_words : ℕ → Bool
is_between_words b = b == tab || b == form_feed || b == space || is_line_end b

-- a byte above the space (this project)
abbrev pub is_solid : ℕ → Bool
is_solid b = nat_lt space b

-- the words of bytes: the nonempty parts between tabs, 0x0C, spaces and line endings (this project)
unfoldable pub words : List ℕ → List (List ℕ)
words bs = filter (λ part. nat_lt 0 (length part)) (slice_split is_between_words bs)

-- a word with an attribute: it has two bytes or more (this project)
abbrev pub is_attribute_word : List ℕ → Bool
is_attribute_word word = nat_lt 1 (length word)

-- the words that begin with this byte, without it (this project)
abbrev pub marked : ℕ → List (List ℕ) → List (List ℕ)
marked mark ws = map (drop 1) (filter (begins mark) ws)

-- a word that begins with neither `#` nor `.` is a key (this project)
abbrev pub gives_key : List ℕ → Bool
gives_key word = not (begins number_sign word || begins full_stop word)

-- the key is the part before the first `=`, and its value the part after it; a word without `=` is a key without a
-- value (this project)
unfoldable pub key_and_value : List ℕ → List ℕ × Option (List ℕ)
key_and_value word =
    option_map_or (λ at. (take at word, Some (drop (at + 1) word))) (position (λ b. b == equals_sign) word) (word, None)

-- the attributes of a heading: an id, classes in order, and keys with their values in order (this project)
pub record Attributes : Type 0 where
  pub id : Option (List ℕ)
  pub classes : List (List ℕ)
  pub attrs : List (List ℕ × Option (List ℕ))

-- the last of the values, or another one if there are none (this project)
abbrev pub last_or : {X : Type 0} → Option X → List X → Option X
last_or other [] = other
last_or other (x ∷ xs) = last_or (Some x) xs

-- attributes followed by those of further words: the last id counts, and classes and keys keep their order
-- (this project)
unfoldable pub with_words : Attributes → List (List ℕ) → Attributes
with_words before ws = record {
  id = last_or before.id (marked number_sign ws);
  classes = before.classes ++ marked full_stop ws;
  attrs = before.attrs ++ map key_and_value (filter gives_key ws);
}

-- there is more than one class, or more than one key (this project)
abbrev pub HasSeveral : Attributes → Type 0
HasSeveral a = (1 < length a.classes) ⊎ (1 < length a.attrs)

-- no attributes (this project)
abbrev pub no_attributes : Attributes
no_attributes = record { id = None; classes = []; attrs = [] }

-- the attributes in the bytes between the braces of an attribute block: those of the words of two bytes or more
-- (this project)
unfoldable pub attributes_of : List ℕ → Attributes
attributes_of bs = with_words no_attributes (filter is_attribute_word (words bs))

-- a key and its value as bytes (this project)
abbrev pub pair_in : Bor (List ℕ) × Option (Bor (List ℕ)) → List ℕ × Option (List ℕ)
pair_in pair = (pair.0.now, option_map (λ value. value.now) pair.1)

-- the attributes of a heading as bytes (this project)
abbrev pub attributes_in : HeadingAttributes → Attributes
attributes_in h = record {
  id = option_map (λ id. id.now) h.id;
  classes = map (λ class. class.now) h.classes;
  attrs = map pair_in h.attrs;
}
