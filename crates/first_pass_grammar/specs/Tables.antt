-- Tables (GFM 4.10): the cells of a row, the rows of a table, and the table.
use Rattle.std.specs.Prelude.{◌≡◌, ◌⊎◌, ℕ, ◌+◌, ◌-◌, ◌<◌, ◌≤◌, ◌==◌, true, false, List, [], ◌∷◌, ◌++◌, length, map, take, drop, slice_index, replicate, Option}
use Rattle.std.specs.Prelude.{Some, None, Bool, ◌||◌, if◌then◌else◌}
use Rattle.std.specs.Option.{option_and_then}
use Rattle.std.specs.List.{prefix_len}
use Rattle.first_pass_items.specs.Bytes.{pipe}
use Rattle.first_pass_items.specs.declared.item.Alignment.{Alignment}
use Rattle.first_pass_items.specs.declared.item.AlignmentIndex.{AlignmentIndex}
use Rattle.first_pass_items.specs.declared.item.Item.{Item}
use Rattle.first_pass_items.specs.declared.option_set.Options.{Options}
use Rattle.first_pass_items.specs.declared.item.ItemBody.{ItemBody}
use Rattle.first_pass_items.specs.declared.item.ItemBody.TheVariants.{Table, TableHead, TableRow, TableCell}
use Rattle.first_pass_tree.specs.Forest.{block_of}
use Rattle.first_pass_lines.specs.Lines.{is_white, at_line_end, eol_len}
use Rattle.first_pass_lines.specs.Places.{Place, offset, start_of}
use Rattle.first_pass_tokens.specs.Pieces.{Inline}
use Rattle.first_pass_tokens.specs.Braces.{MathBraces, no_braces}
use Rattle.first_pass_tokens.specs.LineTokens.{Spot, spot, IsCell}
use Rattle.first_pass_grammar.specs.declared.kind.Container.{Container}
use Rattle.first_pass_grammar.specs.Names.{NamesAlignments}
use Rattle.first_pass_grammar.specs.Containers.{Context, taken}
use Rattle.first_pass_grammar.specs.Kinds.{unindented, interrupts_with, footnote_interrupts}
use Rattle.first_pass_grammar.specs.Leaves.{Document, around, block_with}

-- the inline content of a cell that begins at a place, with the brace contexts before it (GFM 4.10)
abbrev pub cell_content : Document → Spot → Inline
cell_content d p = record { options = d.options; whole = d.text; text = d.text; start = p.at; row = true; braces = p.braces }

-- the start of a cell: after the pipe at an offset, or at the offset if there is no pipe (GFM 4.10)
abbrev pub cell_start : List ℕ → ℕ → ℕ
cell_start text at = if slice_index text at == pipe then at + 1 else at

-- the start of the cell's content: after the white space there (GFM 4.10)
abbrev pub cell_text : List ℕ → ℕ → ℕ
cell_text text at = cell_start text at + prefix_len is_white (drop (cell_start text at) text)

-- a cell with its tokens (GFM 4.10)
abbrev pub cell_block : ℕ → ℕ → List Item → List (ℕ × Item)
cell_block start «end» tokens = block_with start «end» TableCell tokens

-- The cells of a row from a place on; the row ends after its line ending. A cell reaches from after its pipe to the
-- next pipe or the end of the line, and the texts of its tokens are named. White space after the last pipe is no cell.
-- Each cell begins with the brace contexts that the one before it leaves, even if that one is dropped (GFM 4.10, and
-- this project).
unfoldable pub AreCells : Document → Spot → List (List (ℕ × Item)) → Spot → Type 0
AreCells d p [] to = (n : ℕ) × (eol_len (drop (cell_text d.text p.at) d.text) ≡ Some n) × (to ≡ spot (cell_text d.text p.at + n) p.braces)
AreCells d p (cell ∷ cells) to =
    (at_line_end (drop (cell_text d.text p.at) d.text) ≡ false)
    × (tokens : List Item) × (stop : Spot) × IsCell d.names.texts (cell_content d (spot (cell_text d.text p.at) p.braces)) tokens stop.at stop.braces
    × (cell ≡ cell_block (cell_start d.text p.at) stop.at tokens) × AreCells d stop cells to

-- the number of empty cells that are inserted into a row, given its columns and its own cells (GFM 4.10)
abbrev pub inserted : ℕ → List (List (ℕ × Item)) → ℕ
inserted columns cells = columns - length cells

-- the items of blocks side by side (this project)
abbrev pub side_by_side : List (List (ℕ × Item)) → List (ℕ × Item)
side_by_side [] = []
side_by_side (block ∷ blocks) = block ++ side_by_side blocks

-- as many cells as columns: the first cells of the row, then empty cells at its end (GFM 4.10)
abbrev pub row_cells : ℕ → List (List (ℕ × Item)) → ℕ → List (ℕ × Item)
row_cells columns cells «end» = side_by_side (take columns cells ++ replicate (inserted columns cells) (cell_block «end» «end» []))

-- the row or header row with this many columns and these cells, between two offsets (GFM 4.10)
abbrev pub row_block : ItemBody → ℕ → ℕ → List (List (ℕ × Item)) → ℕ → List (ℕ × Item)
row_block body columns start cells «end» = block_of (record { start = start; «end» = «end»; body = body }) (row_cells columns cells «end»)

-- what ends a table: what interrupts a paragraph, except that any list item does and a table does not (GFM 4.10, and
-- this project)
abbrev pub interrupts_row : Options → List ℕ → Bool
interrupts_row options bs = interrupts_with false bs || footnote_interrupts options true bs

-- The start of a row's text in a line: after the prefixes of the path and the indentation. A line that does not
-- continue the whole path is no row, and neither is a line whose text ends a table (GFM 4.10, and this project).
abbrev pub row_text : Context → Place → Option ℕ
row_text around line =
    option_and_then (λ p. if interrupts_row around.options (unindented p).rest.left then None else Some (offset (unindented p))) (taken around.path line)

-- what a block takes of a text: its items, and the lines after it
pub record Taken : Type 0 where
  pub items : List (ℕ × Item)
  pub left : List Place

abbrev pub taking : List (ℕ × Item) → List Place → Taken
taking items left = record { items = items; left = left }

-- a row that was found in a text: the start of its text, its cells, its end, and the brace contexts there (GFM 4.10)
pub record FoundRow : Type 0 where
  pub start : ℕ
  pub cells : List (List (ℕ × Item))
  pub row_end : ℕ
  pub after : MathBraces

-- a line is this row, which may have no cells; the brace contexts are those before the row (GFM 4.10)
pub record HasCells (d : Document) (path : List Container) (line : Place) (before : MathBraces) (row : FoundRow) : Type 0 where
  pub begins : row_text (around d path) line ≡ Some row.start
  pub are_cells : AreCells d (spot row.start before) row.cells (spot row.row_end row.after)

-- the brace contexts after rows, given those before the first row (this project)
abbrev pub braces_after_rows : MathBraces → List FoundRow → MathBraces
braces_after_rows before [] = before
braces_after_rows before (row ∷ rows) = braces_after_rows row.after rows

-- The first of these lines are these rows in order, each with a cell; the other lines come after them (GFM 4.10).
unfoldable pub TakesRows : Document → List Container → MathBraces → List FoundRow → List Place → List Place → Type 0
TakesRows d path before [] lines left = left ≡ lines
TakesRows d path before (row ∷ rows) [] left = ⊥
TakesRows d path before (row ∷ rows) (line ∷ lines) left =
    HasCells d path line before row × (0 < length row.cells) × TakesRows d path row.after rows lines left

-- the number of cells that are inserted into all these rows, for this many columns (GFM 4.10)
abbrev pub all_inserted : ℕ → List FoundRow → ℕ
all_inserted columns [] = 0
all_inserted columns (row ∷ rows) = inserted columns row.cells + all_inserted columns rows

-- a table up to a line: its number of columns, how many more cells may be inserted into its rows, and the brace
-- contexts before the line (GFM 4.10, and this project)
pub record TableSoFar : Type 0 where
  pub columns : ℕ
  pub room : ℕ
  pub braces : MathBraces

abbrev pub table_so_far : ℕ → ℕ → MathBraces → TableSoFar
table_so_far columns room braces = record { columns = columns; room = room; braces = braces }

-- The rows of a table end before these lines: there is no line, or the first one is no row or has no cell. They also
-- end before a row into which more cells would be inserted than allowed (GFM 4.10, and this project).
unfoldable pub EndRows : Document → List Container → TableSoFar → List Place → Type 0
EndRows d path table [] = Unit {0}
EndRows d path table (line ∷ lines) =
    (row_text (around d path) line ≡ None)
    ⊎ ((row : FoundRow) × HasCells d path line table.braces row × ((row.cells ≡ []) ⊎ (table.room < inserted table.columns row.cells)))

-- the items of rows with this many columns, in order (GFM 4.10)
abbrev pub row_blocks : ℕ → List FoundRow → List (ℕ × Item)
row_blocks columns rows = side_by_side (map (λ (row : FoundRow). row_block TableRow columns row.start row.cells row.row_end) rows)

-- a table after these rows
abbrev pub with_rows : TableSoFar → List FoundRow → TableSoFar
with_rows table rows = table_so_far table.columns (table.room - all_inserted table.columns rows) (braces_after_rows table.braces rows)

-- The longest run of rows of a table at the start of these lines into which, in total, no more cells are inserted than
-- allowed (GFM 4.10, and this project).
pub record AreRows (d : Document) (path : List Container) (table : TableSoFar) (lines : List Place) (t : Taken) : Type 0 where
  pub rows : List FoundRow
  pub takes : TakesRows d path table.braces rows lines t.left
  pub fits : all_inserted table.columns rows ≤ table.room
  pub ends : EndRows d path (with_rows table rows) t.left
  pub items_are : t.items ≡ row_blocks table.columns rows

-- the greatest number of cells that may be inserted into one table (this project)
abbrev pub most_inserted : ℕ
most_inserted = 262144

-- the table whose header row begins at a place, with these alignments; the lines begin with its delimiter row (GFM
-- 4.10)
pub record IsTable (d : Document) (path : List Container) (p : Place) (alignments : List Alignment) (lines : List Place) (t : Taken) : Type 0 where
  pub index : AlignmentIndex
  pub named : NamesAlignments d.names index alignments
  pub cells : List (List (ℕ × Item))
  pub head_end : ℕ
  pub after : MathBraces
  pub are_cells : AreCells d (spot (offset p) no_braces) cells (spot head_end after)
  pub body : List (ℕ × Item)
  pub are_rows : AreRows d path (table_so_far (length alignments) (most_inserted - inserted (length alignments) cells) after) (drop 1 lines)
      (taking body t.left)
  pub items_are : t.items ≡ block_of (record { start = offset p; «end» = start_of (length d.text) t.left; body = Table index })
      (row_block TableHead (length alignments) (offset p) cells head_end ++ body)
