-- The lengths in bytes of the parts of a tag at the start of the bytes.
use Rattle.std.specs.Prelude.{ℕ, ◌+◌, Bool, ◌==◌, ◌&&◌, ◌||◌, List, [], ◌∷◌, drop, Option, None, Some, unwrap_or, if◌then◌else◌}
use Rattle.std.specs.List.{prefix_len}
use Rattle.std.specs.Option.{option_map}
use Rattle.std.specs.Char.{is_ascii_alphabetic}
use Rattle.first_pass_items.specs.Bytes.{quotation_mark, apostrophe, solidus, equals_sign, greater_than}
use Rattle.first_pass_lines.specs.Lines.{begins, is_space_or_tab}
use Rattle.first_pass_html.specs.Tags.{is_tag_byte, starts_attribute, is_attribute_byte, is_unquoted, is_quoted}

-- the length of a first byte and of all bytes that continue it (this project)
abbrev pub word_len : (ℕ → Bool) → (ℕ → Bool) → List ℕ → Option ℕ
word_len first other [] = None
word_len first other (b ∷ bs) = if first b then Some (1 + prefix_len other bs) else None

-- the length of the tag name, if there is one (CommonMark 6.6)
abbrev pub tag_name_len : List ℕ → Option ℕ
tag_name_len = word_len is_ascii_alphabetic is_tag_byte

-- the length of the attribute name, if there is one (CommonMark 6.6)
abbrev pub attribute_name_len : List ℕ → Option ℕ
attribute_name_len = word_len starts_attribute is_attribute_byte

-- the length of the unquoted value, if there is one (CommonMark 6.6)
abbrev pub unquoted_len : List ℕ → Option ℕ
unquoted_len bs = let n = prefix_len is_unquoted bs in if n == 0 then None else Some n

-- the length of a quoted value with both quotes, from the bytes after its opening quote (CommonMark 6.6)
unfoldable pub quoted_len : ℕ → List ℕ → Option ℕ
quoted_len quote bs = let n = prefix_len (is_quoted quote) bs in if begins quote (drop n bs) then Some (n + 2) else None

-- the length of the attribute value, if there is one (CommonMark 6.6)
unfoldable pub value_len : List ℕ → Option ℕ
value_len [] = None
value_len (b ∷ bs) = if b == quotation_mark || b == apostrophe then quoted_len b bs else unquoted_len (b ∷ bs)

-- the length of blanks and the value after them, if there is one (CommonMark 6.6, attribute value specification)
unfoldable pub blanks_value_len : List ℕ → Option ℕ
blanks_value_len bs = let n = prefix_len is_space_or_tab bs in option_map (λ k. n + k) (value_len (drop n bs))

-- the length of the value specification, or 0 if there is none (CommonMark 6.6)
unfoldable pub specification_len : List ℕ → ℕ
specification_len bs =
    let n = prefix_len is_space_or_tab bs in
    if begins equals_sign (drop n bs) then unwrap_or (option_map (λ k. n + 1 + k) (blanks_value_len (drop (n + 1) bs))) 0 else 0

-- the length of an attribute name and its optional value specification (CommonMark 6.6)
unfoldable pub named_len : List ℕ → Option ℕ
named_len bs = option_map (λ k. k + specification_len (drop k bs)) (attribute_name_len bs)

-- the length of an attribute, with the blanks before its name (CommonMark 6.6)
unfoldable pub attribute_len : List ℕ → Option ℕ
attribute_len bs = let n = prefix_len is_space_or_tab bs in if n == 0 then None else option_map (λ k. n + k) (named_len (drop n bs))

-- the length of `>` or `/>` (CommonMark 6.6, open tag)
abbrev pub close_len : List ℕ → Option ℕ
close_len [] = None
close_len (b ∷ bs) = if b == greater_than then Some 1 else (if b == solidus && begins greater_than bs then Some 2 else None)

-- the length of the end of an open tag: blanks, an optional `/`, and `>` (CommonMark 6.6)
unfoldable pub open_end_len : List ℕ → Option ℕ
open_end_len bs = let n = prefix_len is_space_or_tab bs in option_map (λ k. n + k) (close_len (drop n bs))

-- the length of the end of a closing tag: blanks, and `>` (CommonMark 6.6)
unfoldable pub closing_end_len : List ℕ → Option ℕ
closing_end_len bs = let n = prefix_len is_space_or_tab bs in if begins greater_than (drop n bs) then Some (n + 1) else None
