-- The options that words name (this project).
use Rattle.std.specs.Prelude.{◌≡◌, ◌==◌, ℕ, Bool, true, false, not, if◌then◌else◌, ◌||◌, List, [], ◌∷◌, Option, Some, None, Contains, bit_and, bit_or}
use Rattle.std.specs.Prelude.{codes, find, filter, fold, length, map, nat_lt, option_map}
use Rattle.std.specs.Char.{is_ascii_digit}
use Rattle.std.specs.List.{join_by, list_all, slice_split}
use Rattle.std.specs.Option.{option_map_or}
use Rattle.std.specs.Str.{bytes_eq}
use Rattle.std.specs.Str.Parse.{digits_value}
use Rattle.first_pass_host.specs.OptionWord.{known_bits}
use Rattle.first_pass_program.specs.declared.words.option_names.OptionFault.{OptionFault}
use Rattle.first_pass_program.specs.declared.words.option_names.OptionFault.TheVariants.{NoOption, NoValue, NoName}

-- each option with its bits
abbrev pub option_values : List (List ℕ × ℕ)
option_values =
    (codes "tables", 2)
    ∷ (codes "footnotes", 4)
    ∷ (codes "strikethrough", 8)
    ∷ (codes "tasklists", 16)
    ∷ (codes "smart_punctuation", 32)
    ∷ (codes "heading_attributes", 64)
    ∷ (codes "yaml_style_metadata_blocks", 128)
    ∷ (codes "pluses_delimited_metadata_blocks", 256)
    ∷ (codes "old_footnotes", 516)
    ∷ (codes "math", 1024)
    ∷ (codes "gfm", 2048)
    ∷ (codes "definition_list", 4096)
    ∷ (codes "superscript", 8192)
    ∷ (codes "subscript", 16384)
    ∷ (codes "wikilinks", 32768)
    ∷ []

-- each set of options with its bits
abbrev pub set_values : List (List ℕ × ℕ)
set_values = (codes "commonmark", 0) ∷ (codes "github", 2078) ∷ (codes "docs", 7390) ∷ (codes "all", 65534) ∷ []

-- a word with `_` for each `-`
abbrev pub with_underscores : List ℕ → List ℕ
with_underscores word = map (λ b. if b == 45 then 95 else b) word

-- the bits of the first entry with a name, in which `-` may stand for `_`
abbrev pub bits_among : List (List ℕ × ℕ) → List ℕ → Option ℕ
bits_among entries word = option_map (λ e. e.1) (find (λ e. bytes_eq (with_underscores word) e.0) entries)

-- the bits of the name of an option or a set
unfoldable pub named_bits : List ℕ → Option ℕ
named_bits word = option_map_or (λ bits. Some bits) (bits_among option_values word) (bits_among set_values word)

-- each byte of a word is a digit
abbrev pub is_number : List ℕ → Bool
is_number word = list_all is_ascii_digit word

-- the bits of a decimal value, of at most nine digits
abbrev pub value_bits : List ℕ → Option ℕ
value_bits word =
    let value = digits_value 10 word in
    if nat_lt 9 (length word) || not (bit_and value known_bits == value) then None else Some value

-- the bits that a word means
abbrev pub word_bits : List ℕ → Option ℕ
word_bits [] = None
word_bits (b ∷ more) = if is_number (b ∷ more) then value_bits (b ∷ more) else named_bits (b ∷ more)

-- the words of a list, between commas
abbrev pub words_in : List ℕ → List (List ℕ)
words_in list = slice_split (λ b. b == 44) list

-- the bits of two together
abbrev pub both_bits : Option ℕ → Option ℕ → Option ℕ
both_bits (Some a) (Some b) = Some (bit_or a b)
both_bits _ _ = None

-- some bits with those of words
abbrev pub bits_with : Option ℕ → List (List ℕ) → Option ℕ
bits_with bits words = fold (λ sum word. both_bits sum (word_bits word)) bits words

-- the fault of a word of a list: the word, or the list if the word is empty
abbrev pub IsFaultAt : List ℕ → List ℕ → OptionFault → Type 0
IsFaultAt list word (NoName whole) = (word ≡ []) × (whole.now ≡ list)
IsFaultAt list word (NoValue wrong) = (wrong.now ≡ word) × (is_number word ≡ true) × (word_bits word ≡ None)
IsFaultAt list word (NoOption wrong) = (wrong.now ≡ word) × (is_number word ≡ false) × (word_bits word ≡ None)

-- the fault of a word that a list has
pub record IsFaultOf (list : List ℕ) (fault : OptionFault) : Type 0 where
  pub word : List ℕ
  pub among : Contains (words_in list) word
  pub fault_is : IsFaultAt list word fault

-- the entries whose bits are all on
abbrev pub entries_on : ℕ → List (List ℕ × ℕ) → List (List ℕ × ℕ)
entries_on bits entries = filter (λ e. bit_and bits e.1 == e.1) entries

-- the names of entries, with a comma and a space between two
abbrev pub joined : List (List ℕ × ℕ) → List ℕ
joined entries = join_by (λ e. e.0) (codes ", ") entries

-- the names of the options that are on, or `none`
unfoldable pub names_text : ℕ → List ℕ
names_text bits = let on = entries_on bits option_values in if length on == 0 then codes "none" else joined on
