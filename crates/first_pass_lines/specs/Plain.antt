-- Bytes with which only paragraph text or a header row begins, and bytes with which no list item or block quote does.
use Rattle.std.specs.Prelude.{ℕ, ◌==◌, ◌||◌, not, nat_le, Bool, false, List, [], ◌∷◌}
use Rattle.std.specs.Char.{is_ascii_alphabetic, is_ascii_digit}
use Rattle.first_pass_items.specs.Bytes.{tab, space, asterisk, plus_sign, hyphen, greater_than, ascii_end}

-- an ASCII letter or a non-ASCII byte: it is no white space, and a block that begins with it is a paragraph, a table, a
-- setext heading or the title of a definition list (this project)
unfoldable pub is_plain : ℕ → Bool
is_plain b = is_ascii_alphabetic b || nat_le ascii_end b

-- the bytes begin with an ASCII letter or a non-ASCII byte (this project)
abbrev pub begins_plain : List ℕ → Bool
begins_plain [] = false
begins_plain (b ∷ bs) = is_plain b

-- a byte with which no indentation, list item or block quote begins: no space, tab, bullet, digit or `>` (this project)
unfoldable pub is_inert : ℕ → Bool
is_inert b = not (b == tab || b == space || b == asterisk || b == plus_sign || b == hyphen || b == greater_than || is_ascii_digit b)

-- the bytes begin with such a byte (this project)
abbrev pub begins_inert : List ℕ → Bool
begins_inert [] = false
begins_inert (b ∷ bs) = is_inert b
