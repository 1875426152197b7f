-- Open tags and closing tags on a single line. Blanks are therefore spaces and tabs.
use Rattle.std.specs.Prelude.{◌≡◌, ◌≤◌, ℕ, ◌⊎◌, Bool, true, false, ◌==◌, ◌&&◌, ◌||◌, not, List, [], ◌∷◌, ◌++◌, length, drop, take}
use Rattle.std.specs.List.{list_all, concat}
use Rattle.std.specs.Char.{is_ascii_alphabetic, is_ascii_alphanumeric}
use Rattle.first_pass_items.specs.Bytes.{quotation_mark, apostrophe, hyphen, full_stop, solidus, colon, less_than, equals_sign, greater_than, underscore}
use Rattle.first_pass_items.specs.Bytes.{backquote}
use Rattle.first_pass_lines.specs.Lines.{is_line_end, is_space_or_tab, is_blank_line}
use Rattle.first_pass_html.specs.Starts.{is_raw_name}

-- a byte of a tag name after its first letter: a letter, a digit or a hyphen (CommonMark 6.6, tag name)
abbrev pub is_tag_byte : ℕ → Bool
is_tag_byte b = is_ascii_alphanumeric b || b == hyphen

-- the first byte of an attribute name: a letter, `_` or `:` (CommonMark 6.6, attribute name)
abbrev pub starts_attribute : ℕ → Bool
starts_attribute b = is_ascii_alphabetic b || (b == underscore || b == colon)

-- a byte of an attribute name after the first: a letter, a digit, `_`, `.`, `:` or `-` (CommonMark 6.6, attribute
-- name)
abbrev pub is_attribute_byte : ℕ → Bool
is_attribute_byte b = is_ascii_alphanumeric b || (b == underscore || (b == full_stop || (b == colon || b == hyphen)))

-- a byte of an unquoted value: not a blank, a line ending, `"`, `'`, `=`, `<`, `>` or a backquote (CommonMark 6.6,
-- unquoted attribute value)
abbrev pub is_unquoted : ℕ → Bool
is_unquoted b =
    not (is_space_or_tab b
    || (is_line_end b || (b == quotation_mark || (b == apostrophe || (b == equals_sign || (b == less_than || (b == greater_than || b == backquote)))))))

-- a byte of a quoted value: neither its quote nor a line ending (CommonMark 6.6, quoted attribute value)
abbrev pub is_quoted : ℕ → ℕ → Bool
is_quoted quote b = not (b == quote || is_line_end b)

-- one byte of the first class, and then any number of the other (this project)
abbrev pub is_word : (ℕ → Bool) → (ℕ → Bool) → List ℕ → Bool
is_word first other [] = false
is_word first other (b ∷ bs) = first b && list_all other bs

-- a tag name (CommonMark 6.6)
abbrev pub is_tag_name : List ℕ → Bool
is_tag_name = is_word is_ascii_alphabetic is_tag_byte

-- an attribute name (CommonMark 6.6)
abbrev pub is_attribute_name : List ℕ → Bool
is_attribute_name = is_word starts_attribute is_attribute_byte

-- a value between two quotes of a kind (CommonMark 6.6, single-quoted and double-quoted attribute value)
abbrev pub IsQuotedValue : ℕ → List ℕ → Type 0
IsQuotedValue quote bs = (inside : List ℕ) × (bs ≡ quote ∷ (inside ++ quote ∷ [])) × (list_all (is_quoted quote) inside ≡ true)

-- an attribute value (CommonMark 6.6)
abbrev pub IsValue : List ℕ → Type 0
IsValue bs = (is_word is_unquoted is_unquoted bs ≡ true) ⊎ IsQuotedValue apostrophe bs ⊎ IsQuotedValue quotation_mark bs

-- an attribute value specification: optional blanks, `=`, optional blanks, and a value (CommonMark 6.6)
pub record IsValueSpecification (bs : List ℕ) : Type 0 where
  pub before : List ℕ
  pub following : List ℕ
  pub value : List ℕ
  pub parts : bs ≡ before ++ equals_sign ∷ (following ++ value)
  pub before_blank : list_all is_space_or_tab before ≡ true
  pub past_blank : list_all is_space_or_tab following ≡ true
  pub is_value : IsValue value

-- an attribute: one or more blanks, a name, and an optional value specification (CommonMark 6.6)
pub record IsAttribute (bs : List ℕ) : Type 0 where
  pub blanks : List ℕ
  pub name : List ℕ
  pub specification : List ℕ
  pub parts : bs ≡ blanks ++ (name ++ specification)
  pub is_blanks : is_word is_space_or_tab is_space_or_tab blanks ≡ true
  pub is_name : is_attribute_name name ≡ true
  pub specified : (specification ≡ []) ⊎ IsValueSpecification specification

-- each of the texts is an attribute (CommonMark 6.6)
abbrev pub AreAttributes : List (List ℕ) → Type 0
AreAttributes [] = Unit
AreAttributes (bs ∷ others) = IsAttribute bs × AreAttributes others

-- the end of an open tag: blanks, an optional `/`, and `>` (CommonMark 6.6)
pub record IsOpenTagEnd (bs : List ℕ) : Type 0 where
  pub blanks : List ℕ
  pub slash : List ℕ
  pub parts : bs ≡ blanks ++ (slash ++ greater_than ∷ [])
  pub is_blanks : list_all is_space_or_tab blanks ≡ true
  pub is_slash : (slash ≡ []) ⊎ (slash ≡ solidus ∷ [])

-- an open tag: `<`, a tag name, attributes, and its end (CommonMark 6.6)
pub record IsOpenTag (bs : List ℕ) : Type 0 where
  pub name : List ℕ
  pub attributes : List (List ℕ)
  pub ending : List ℕ
  pub parts : bs ≡ less_than ∷ (name ++ (concat attributes ++ ending))
  pub is_name : is_tag_name name ≡ true
  pub are_attributes : AreAttributes attributes
  pub ends : IsOpenTagEnd ending

-- a closing tag: `</`, a tag name, blanks, and `>` (CommonMark 6.6)
pub record IsClosingTag (bs : List ℕ) : Type 0 where
  pub name : List ℕ
  pub blanks : List ℕ
  pub parts : bs ≡ less_than ∷ (solidus ∷ (name ++ (blanks ++ greater_than ∷ [])))
  pub is_name : is_tag_name name ≡ true
  pub is_blanks : list_all is_space_or_tab blanks ≡ true

-- an open tag whose name is not one of raw text (CommonMark 4.6, start condition 7; that case does not matter: this
-- project)
abbrev pub IsBlockOpenTag : List ℕ → Type 0
IsBlockOpenTag bs = (tag : IsOpenTag bs) × (is_raw_name tag.name ≡ false)

-- an open tag of start condition 7, without its `<` (this project)
abbrev pub IsAfterOpening : List ℕ → Type 0
IsAfterOpening bs = IsBlockOpenTag (less_than ∷ bs)

-- a closing tag without its `</` (this project)
abbrev pub IsAfterClosing : List ℕ → Type 0
IsAfterClosing bs = IsClosingTag (less_than ∷ (solidus ∷ bs))

-- a tag that can begin an HTML block of the seventh kind: an open tag as above, or a closing tag (CommonMark 4.6,
-- start condition 7)
abbrev pub IsBlockTag : List ℕ → Type 0
IsBlockTag bs = IsBlockOpenTag bs ⊎ IsClosingTag bs

-- the first n bytes are a tag that can begin an HTML block of the seventh kind, and the rest of the line is blank
-- (CommonMark 4.6, start condition 7)
pub record BeginsTagLine (bs : List ℕ) (n : ℕ) : Type 0 where
  pub within : n ≤ length bs
  pub tag : IsBlockTag (take n bs)
  pub blank : is_blank_line (drop n bs) ≡ true
