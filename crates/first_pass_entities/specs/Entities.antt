-- Entity and numeric character references (CommonMark 2.5). Each definition takes the bytes from a place in the text
-- on.
use Rattle.std.specs.Prelude.{ℕ, ◌+◌, ◌&&◌, ◌||◌, Bool, List, take, drop, codes, Option, Some, None, nat_lt, nat_le, if◌then◌else◌}
use Rattle.std.specs.Option.{option_map, option_or}
use Rattle.std.specs.List.{prefix_len}
use Rattle.std.specs.Char.{is_ascii_digit, is_ascii_hexdigit, is_ascii_alphabetic}
use Rattle.std.specs.Str.{bytes_eq}
use Rattle.std.specs.Str.Parse.{digits_value}
use Rattle.first_pass_items.specs.Bytes.{number_sign, ampersand, semicolon, capital_x, small_x}
use Rattle.first_pass_lines.specs.Lines.{begins}

-- the number of a character: a Unicode scalar value other than 0 (CommonMark 2.5)
abbrev pub is_character : ℕ → Bool
is_character n = nat_lt 0 n && (nat_lt n 0xD800 || (nat_lt 0xDFFF n && nat_lt n 0x11_0000))

-- the character that a number refers to: U+FFFD, the replacement character, for 0 and for a number that is no Unicode
-- scalar value (CommonMark 2.5)
abbrev pub referred : ℕ → ℕ
referred n = if is_character n then n else 0xFFFD

-- the length and character of a reference, with this many more bytes before it (this project)
abbrev pub following : ℕ → Option (ℕ × ℕ) → Option (ℕ × ℕ)
following n found = option_map (λ e. (n + e.0, e.1)) found

-- a number of at most `most` digits and then `;`: its length in bytes, and the character that it refers to
-- (CommonMark 2.5)
unfoldable pub number_at : (ℕ → Bool) → ℕ → ℕ → List ℕ → Option (ℕ × ℕ)
number_at is_digit radix most bs =
    let n = prefix_len is_digit bs in
    if nat_le 1 n && nat_le n most && begins semicolon (drop n bs) then Some (n + 1, referred (digits_value radix (take n bs))) else None

-- a numeric reference after its `&#`: `x` or `X` and 1 to 6 hexadecimal digits, or 1 to 7 decimal digits; then `;`
-- (CommonMark 2.5)
unfoldable pub numeric_at : List ℕ → Option (ℕ × ℕ)
numeric_at bs =
    if begins small_x bs || begins capital_x bs then following 1 (number_at is_ascii_hexdigit 16 6 (drop 1 bs)) else number_at is_ascii_digit 10 7 bs

-- the character of an entity name of XML (CommonMark 2.5 has the names of HTML, of which this project keeps twelve)
unfoldable pub named_in_xml : List ℕ → Option ℕ
named_in_xml name =
    if bytes_eq name (codes "amp") then Some 38
    else (if bytes_eq name (codes "lt") then Some 60
    else (if bytes_eq name (codes "gt") then Some 62
    else (if bytes_eq name (codes "quot") then Some 34
    else (if bytes_eq name (codes "apos") then Some 39
    else None))))

-- the character of an entity name for a letter or sign, one of those that this project keeps (CommonMark 2.5)
unfoldable pub named_sign : List ℕ → Option ℕ
named_sign name =
    if bytes_eq name (codes "nbsp") then Some 0xA0
    else (if bytes_eq name (codes "copy") then Some 0xA9
    else (if bytes_eq name (codes "reg") then Some 0xAE
    else (if bytes_eq name (codes "AElig") then Some 0xC6
    else None)))

-- the character of an entity name for punctuation, one of those that this project keeps (CommonMark 2.5)
unfoldable pub named_punctuation : List ℕ → Option ℕ
named_punctuation name =
    if bytes_eq name (codes "hellip") then Some 0x2026
    else (if bytes_eq name (codes "mdash") then Some 0x2014
    else (if bytes_eq name (codes "ndash") then Some 0x2013
    else None))

-- the character of an entity name, one of twelve (CommonMark 2.5)
unfoldable pub named : List ℕ → Option ℕ
named name = option_or (named_in_xml name) (option_or (named_sign name) (named_punctuation name))

-- an entity reference after its `&`: a name and then `;` (CommonMark 2.5)
unfoldable pub name_at : List ℕ → Option (ℕ × ℕ)
name_at bs =
    let n = prefix_len is_ascii_alphabetic bs in
    if begins semicolon (drop n bs) then option_map (λ c. (n + 1, c)) (named (take n bs)) else None

-- the reference at the start of these bytes: its length in bytes, and its character (CommonMark 2.5)
unfoldable pub entity_at : List ℕ → Option (ℕ × ℕ)
entity_at bs =
    if begins ampersand bs
    then following 1 (if begins number_sign (drop 1 bs) then following 1 (numeric_at (drop 1 (drop 1 bs))) else name_at (drop 1 bs))
    else None
