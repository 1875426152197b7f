-- The lengths in bytes of the parts of a tag in a content. A tag may continue over newlines. Names, unquoted values and
-- `>` or `/>` are as in a tag on a single line.
use Rattle.std.specs.Prelude.{ℕ, zero, suc, ◌+◌, ◌==◌, ◌||◌, not, Bool, List, [], ◌∷◌, length, drop, Option, None, Some, unwrap_or, if◌then◌else◌}
use Rattle.std.specs.List.{prefix_len}
use Rattle.std.specs.Option.{option_map, option_and_then}
use Rattle.first_pass_items.specs.Bytes.{quotation_mark, apostrophe, equals_sign, greater_than}
use Rattle.first_pass_lines.specs.Lines.{begins}
use Rattle.first_pass_atoms.specs.Blanks.{is_blank}
use Rattle.first_pass_html.specs.TagLengths.{tag_name_len, attribute_name_len, unquoted_len, close_len}

-- a byte of a quoted value: any but its quote (CommonMark 6.6, quoted attribute value)
abbrev pub is_quoted : ℕ → ℕ → Bool
is_quoted quote b = not (b == quote)

-- the length of a quoted value with both quotes, from the bytes after its opening quote (CommonMark 6.6)
unfoldable pub quoted_len : ℕ → List ℕ → Option ℕ
quoted_len quote bs = let n = prefix_len (is_quoted quote) bs in if begins quote (drop n bs) then Some (n + 2) else None

-- the length of the attribute value, if there is one (CommonMark 6.6)
unfoldable pub value_len : List ℕ → Option ℕ
value_len [] = None
value_len (b ∷ bs) = if b == quotation_mark || b == apostrophe then quoted_len b bs else unquoted_len (b ∷ bs)

-- the length of blanks and the value after them, if there is one (CommonMark 6.6, attribute value specification)
unfoldable pub blanks_value_len : List ℕ → Option ℕ
blanks_value_len bs = let n = prefix_len is_blank bs in option_map (λ k. n + k) (value_len (drop n bs))

-- the length of the value specification, or 0 if there is none (CommonMark 6.6)
unfoldable pub specification_len : List ℕ → ℕ
specification_len bs =
    let n = prefix_len is_blank bs in
    if begins equals_sign (drop n bs) then unwrap_or (option_map (λ k. n + 1 + k) (blanks_value_len (drop (n + 1) bs))) 0 else 0

-- the length of an attribute name and its optional value specification (CommonMark 6.6)
unfoldable pub named_len : List ℕ → Option ℕ
named_len bs = option_map (λ k. k + specification_len (drop k bs)) (attribute_name_len bs)

-- the length of an attribute, with the blanks before its name (CommonMark 6.6)
unfoldable pub attribute_len : List ℕ → Option ℕ
attribute_len bs = let n = prefix_len is_blank bs in if n == 0 then None else option_map (λ k. n + k) (named_len (drop n bs))

-- the length of the first attributes, at most so many (this project)
unfoldable pub first_attributes_len : ℕ → List ℕ → ℕ
first_attributes_len zero bs = 0
first_attributes_len (suc most) bs = unwrap_or (option_map (λ n. n + first_attributes_len most (drop n bs)) (attribute_len bs)) 0

-- the length of all attributes: there are at most as many as bytes (CommonMark 6.6, open tag)
unfoldable pub attributes_len : List ℕ → ℕ
attributes_len bs = first_attributes_len (length bs) bs

-- the length of the end of an open tag: blanks, an optional `/`, and `>` (CommonMark 6.6)
unfoldable pub open_end_len : List ℕ → Option ℕ
open_end_len bs = let n = prefix_len is_blank bs in option_map (λ k. n + k) (close_len (drop n bs))

-- the length of the rest of an open tag after its name: attributes, and the end (CommonMark 6.6, open tag)
unfoldable pub tag_rest_len : List ℕ → Option ℕ
tag_rest_len bs = let n = attributes_len bs in option_map (λ k. n + k) (open_end_len (drop n bs))

-- the length of an open tag without its `<` (CommonMark 6.6, open tag)
unfoldable pub open_tag_len : List ℕ → Option ℕ
open_tag_len bs = option_and_then (λ n. option_map (λ k. n + k) (tag_rest_len (drop n bs))) (tag_name_len bs)

-- the length of the end of a closing tag: blanks, and `>` (CommonMark 6.6)
unfoldable pub closing_end_len : List ℕ → Option ℕ
closing_end_len bs = let n = prefix_len is_blank bs in if begins greater_than (drop n bs) then Some (n + 1) else None

-- the length of a closing tag without its `</` (CommonMark 6.6, closing tag)
unfoldable pub closing_tag_len : List ℕ → Option ℕ
closing_tag_len bs = option_and_then (λ n. option_map (λ k. n + k) (closing_end_len (drop n bs))) (tag_name_len bs)
