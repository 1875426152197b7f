-- The line and the column of an offset, as editors count (this project).
use Rattle.std.specs.Prelude.{ℕ, ◌+◌, ◌&&◌, List, [], ◌∷◌, length, if◌then◌else◌, nat_le, nat_lt, slice_index, slice_range}
use Rattle.std.specs.List.{filter, sum_by}
use Rattle.first_pass_lines.specs.Lines.{ends_line}
use Rattle.first_pass_places.specs.declared.line_column.LineColumn.{LineColumn}

-- The units of UTF-16 of the character that begins with this byte of UTF-8: none if the byte continues a character, two
-- if it begins one of four bytes (this project).
abbrev pub units_of : ℕ → ℕ
units_of b = if nat_le 128 b && nat_lt b 192 then 0 else (if nat_le 240 b then 2 else 1)

-- the units of UTF-16 of the characters that begin in these bytes (this project)
abbrev pub utf16_len : List ℕ → ℕ
utf16_len bytes = sum_by units_of bytes

-- the offsets after the line endings in these bytes, the first of which has this offset (CommonMark 2.1, line ending)
unfoldable pub line_ends : ℕ → List ℕ → List ℕ
line_ends at [] = []
line_ends at (b ∷ bs) = if ends_line b bs then (at + 1) ∷ line_ends (at + 1) bs else line_ends (at + 1) bs

-- the ends of the line endings of a text that end at or before an offset (this project)
unfoldable pub ends_by : List ℕ → ℕ → List ℕ
ends_by text offset = filter (λ e. nat_le e offset) (line_ends 0 text)

-- the start of the line of an offset: the end of the last line ending before it, or the start of the text (this project)
abbrev pub line_start : List ℕ → ℕ → ℕ
line_start text offset = let ends = ends_by text offset in slice_index (0 ∷ ends) (length ends)

-- The line and the column of an offset. The line is one more than the line endings that end at or before the offset.
-- The column is one more than the units of UTF-16 from the start of the line to the offset (this project).
unfoldable pub line_column : List ℕ → ℕ → LineColumn
line_column text offset = record {
  line = length (ends_by text offset) + 1;
  column = utf16_len (slice_range text (line_start text offset) offset) + 1;
}
