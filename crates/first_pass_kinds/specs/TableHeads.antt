-- The length of the head of a table.
use Rattle.std.specs.Prelude.{ℕ, ◌+◌, List, drop}
use Rattle.first_pass_lines.specs.Lines.{line_len}

-- the length of a header row and of the delimiter row in the next line, with their line endings and the container
-- prefixes before the delimiter row (GFM 4.10)
abbrev pub table_head_len : List ℕ → ℕ
table_head_len bs = line_len bs + line_len (drop (line_len bs) bs)
