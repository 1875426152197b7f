-- The header rows of tables (GFM 4.10).
use Rattle.std.specs.Prelude.{ℕ, ◌%◌, ◌==◌, ◌&&◌, not, Bool, List, length, drop, Option, Some, None, is_some, if◌then◌else◌}
use Rattle.std.specs.Option.{option_and_then}
use Rattle.std.specs.List.{suffix_len, take_while}
use Rattle.first_pass_items.specs.Bytes.{backslash, pipe}
use Rattle.first_pass_items.specs.OptionWords.{has, tables}
use Rattle.first_pass_items.specs.declared.item.Alignment.{Alignment}
use Rattle.first_pass_lines.specs.Lines.{is_content, begins, line_len}
use Rattle.first_pass_lines.specs.Places.{line_rest}
use Rattle.first_pass_scan.specs.TableHead.{head_columns, delimiter_row_of}
use Rattle.first_pass_grammar.specs.declared.kind.Container.{Container}
use Rattle.first_pass_grammar.specs.Containers.{Context, after}

-- the alignments in the line after the one that begins here, if it continues the whole path and is a delimiter row
-- (GFM 4.10)
abbrev pub alignments_after : List Container → List ℕ → Option (List Alignment)
alignments_after path bs = option_and_then delimiter_row_of (after path (line_rest (drop (line_len bs) bs)))

abbrev pub if_as_many : ℕ → List Alignment → Option (List Alignment)
if_as_many columns alignments = if length alignments == columns then Some alignments else None

-- The alignments of the table whose header row begins here: those of the delimiter row after it, if the header row has
-- as many columns (GFM 4.10).
unfoldable pub table_at : List Container → List ℕ → Option (List Alignment)
table_at path bs = option_and_then (if_as_many (head_columns bs)) (alignments_after path bs)

-- A header row that begins with a pipe interrupts a paragraph (this project).
abbrev pub table_interrupts : Context → List ℕ → Bool
table_interrupts around bs = has around.options tables && (begins pipe bs && is_some (table_at around.path bs))

-- the line that begins here ends in an odd number of backslashes, so the last would be a hard line break (CommonMark
-- 6.7)
abbrev pub ends_in_backslash : List ℕ → Bool
ends_in_backslash bs = suffix_len (λ b. b == backslash) (take_while is_content bs) % 2 == 1

-- The alignments of the table whose header row is the first line of the text that begins here. A line that ends in
-- such a backslash is no header row (GFM 4.10, and this project).
unfoldable pub headed_table : Context → List ℕ → Option (List Alignment)
headed_table around bs = if has around.options tables && not (ends_in_backslash bs) then table_at around.path bs else None
