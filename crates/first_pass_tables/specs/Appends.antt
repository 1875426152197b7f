-- The cells and rows that are appended to a table.
use Rattle.std.specs.Prelude.{◌≡◌, ◌⊎◌, ℕ, ◌+◌, ◌-◌, ◌≤◌, ◌&&◌, ◌||◌, not, Bool, true, false, nat_lt, nat_le, max, List, [], ◌∷◌, ◌++◌, length, drop, take}
use Rattle.std.specs.Prelude.{Option, Some, None, is_some, slice_get, IsCharBoundary}
use Rattle.first_pass_items.specs.declared.item.Item.{Item}
use Rattle.first_pass_items.specs.declared.item.ItemBody.TheVariants.{TableHead, TableRow, TableCell}
use Rattle.first_pass_items.specs.OptionWords.{has, tables}
use Rattle.first_pass_tree.specs.declared.tree_index.TreeIndex.{TreeIndex}
use Rattle.first_pass_tree.specs.Forest.{Forest, added, at_depth, kept_after, childless}
use Rattle.first_pass_lines.specs.Places.{line_place}
use Rattle.first_pass_scan.specs.TableHead.{head_columns}
use Rattle.first_pass_tokens.specs.Braces.{MathBraces, no_braces}
use Rattle.first_pass_tokens.specs.LineTokens.{Spot, spot, IsCell}
use Rattle.first_pass_grammar.specs.Names.{Names}
use Rattle.first_pass_grammar.specs.Leaves.{Document, around}
use Rattle.first_pass_grammar.specs.Completion.{lines_from}
use Rattle.first_pass_grammar.specs.OpenOrder.{within_top}
use Rattle.first_pass_grammar.specs.Order.{FitsBetween}
use Rattle.first_pass_grammar.specs.Tables.{cell_content, cell_block, AreCells, inserted, side_by_side, row_block, row_text, taking, FoundRow, TableSoFar}
use Rattle.first_pass_grammar.specs.Tables.{table_so_far, AreRows, most_inserted}
use Rattle.first_pass_grammar.specs.WholeTables.{marks, RowCells, row_marks, inserted_in, HaveCells}
use Rattle.first_pass_open.specs.OpenBlock.{closed_by}
use Rattle.first_pass_open.specs.Path.{path_of}

-- the new tree has one more cell: it begins at an offset, its content extends from one place to another, and the
-- brace contexts are those there (GFM 4.10, and this project)
pub record AddsCell (d : Document) (start : ℕ) (text : Spot) (old new : Forest Item) (stop : Spot) : Type 0 where
  pub tokens : List Item
  pub cell : IsCell d.names.texts (cell_content d text) tokens stop.at stop.braces
  pub tree_is : new ≡ added old (cell_block start stop.at tokens)

-- the item of an empty cell (GFM 4.10)
abbrev pub empty_cell : ℕ → Item
empty_cell at = record { start = at; «end» = at; body = TableCell }

-- the tree without the descendants of the innermost open node, unless that is the root (this project)
abbrev pub without_children : Forest Item → Option TreeIndex → Forest Item
without_children f None = f
without_children f (Some ix) = childless f ix

-- the tree without everything after a child of the innermost open node, or without all descendants of that node
-- (this project)
abbrev pub without_after : Forest Item → Option TreeIndex → Forest Item
without_after f None = without_children f (slice_get f.spine 0)
without_after f (Some ix) = kept_after f ix

-- the tree with these nodes appended below the innermost open node (this project)
abbrev pub with_below : Forest Item → List (ℕ × Item) → Forest Item
with_below f items = record f { nodes = f.nodes ++ at_depth (length f.spine + 1) items }

-- The cells of a row that begins at a place are in the innermost open node, at most one for each column. The call
-- returns the end of the row with the brace contexts there, and the number of its cells (GFM 4.10, and this project).
pub record AppendsCells (d : Document) (columns : ℕ) (start : Spot) (old new : Forest Item) (answer : Spot × ℕ) : Type 0 where
  pub cells : List (List (ℕ × Item))
  pub are_cells : AreCells d start cells answer.0
  pub count : answer.1 ≡ length cells
  pub nodes : new.nodes ≡ old.nodes ++ at_depth (length old.spine + 1) (side_by_side (take columns cells))
  pub spine : new.spine ≡ old.spine

-- a node is open, and if no node is current, it has no children (this project)
pub record IsOpenNode (f : Forest Item) : Type 0 where
  pub place : TreeIndex
  pub around : List TreeIndex
  pub innermost : f.spine ≡ place ∷ around
  pub childless : f.current ≡ None → place.0 + 1 ≡ length f.nodes

-- A row with these cells is kept if it has one or is the first in its table. It may not need more inserted cells than
-- are allowed (GFM 4.10, and this project).
abbrev pub keeps_row : Bool → ℕ → ℕ → List (List (ℕ × Item)) → Bool
keeps_row following columns most cells = (not following || nat_lt 0 (length cells)) && nat_le (inserted columns cells) most

-- a tree with an open table, the number of cells inserted into its rows so far, and the brace contexts after the part
-- that was read (this project)
pub record OpenTable : Type 0 where
  pub tree : Forest Item
  pub inserted_so_far : ℕ
  pub braces : MathBraces

-- such a tree, with this number of inserted cells and these brace contexts
abbrev pub open_table : Forest Item → ℕ → MathBraces → OpenTable
open_table tree count braces = record { tree = tree; inserted_so_far = count; braces = braces }

-- an open table with this number of columns, in terms of the grammar, before the next row
abbrev pub so_far : ℕ → OpenTable → TableSoFar
so_far columns table = table_so_far columns (most_inserted - table.inserted_so_far) table.braces

-- The header row that begins at a place is added, and its inserted cells are counted (GFM 4.10, and this project).
pub record AddsHead (d : Document) (columns : ℕ) (start : Spot) (old : Forest Item) (new : OpenTable) : Type 0 where
  pub cells : List (List (ℕ × Item))
  pub row_end : ℕ
  pub are_cells : AreCells d start cells (spot row_end new.braces)
  pub missing_is : new.inserted_so_far ≡ inserted columns cells
  pub tree_is : new.tree ≡ added old (row_block TableHead columns start.at cells row_end)

-- A row is added to a table with this number of columns if it is kept. Its inserted cells are counted, and the call
-- returns its end and its index. Otherwise the tree and the count are unchanged. Either way, the table has the brace
-- contexts after the row's cells (GFM 4.10, and this project).
abbrev pub AddsRow : ℕ → FoundRow → OpenTable → OpenTable → Option (ℕ × TreeIndex) → Type 0
AddsRow columns row old new None =
    (keeps_row (is_some old.tree.current) columns (most_inserted - old.inserted_so_far) row.cells ≡ false)
    × (new ≡ open_table old.tree old.inserted_so_far row.after)
AddsRow columns row old new (Some (stop, ix)) =
    (keeps_row (is_some old.tree.current) columns (most_inserted - old.inserted_so_far) row.cells ≡ true)
    × (new.tree ≡ added old.tree (row_block TableRow columns row.start row.cells row.row_end))
    × (new.inserted_so_far ≡ old.inserted_so_far + inserted columns row.cells)
    × (stop ≡ row.row_end) × (ix.0 ≡ length old.tree.nodes) × (new.braces ≡ row.after)

-- the row that begins at an offset is read, in a table with this number of columns (GFM 4.10, and this project)
pub record ReadsRow (d : Document) (columns start : ℕ) (old new : OpenTable) (answer : Option (ℕ × TreeIndex)) : Type 0 where
  pub cells : List (List (ℕ × Item))
  pub row_end : ℕ
  pub after : MathBraces
  pub are_cells : AreCells d (spot start old.braces) cells (spot row_end after)
  pub adds : AddsRow columns (record { start = start; cells = cells; row_end = row_end; after = after }) old new answer

-- the line at an offset is read as a row: it is none, or the row that begins in it is read (GFM 4.10)
abbrev pub ReadsRowLine : Document → ℕ → ℕ → OpenTable → OpenTable → Option (ℕ × TreeIndex) → Type 0
ReadsRowLine d columns ix old new answer =
    ((row_text (around d (path_of d.options old.tree)) (line_place ix (drop ix d.text)) ≡ None) × (answer ≡ None) × (new ≡ old))
    ⊎ ((start : ℕ) × (row_text (around d (path_of d.options old.tree)) (line_place ix (drop ix d.text)) ≡ Some start) × ReadsRow d columns start old new answer)

-- The rows of a table are in the innermost open node, which is closed after them: the header row, which begins at an
-- offset, with no brace context open before it; and the rows among the lines from another offset on. These begin with
-- the brace contexts after the header row (GFM 4.10, and this project).
pub record AppendsRows (d : Document) (columns head_start body_start : ℕ) (old new : Forest Item) (next : ℕ) : Type 0 where
  pub cells : List (List (ℕ × Item))
  pub head_end : ℕ
  pub after : MathBraces
  pub are_cells : AreCells d (spot head_start no_braces) cells (spot head_end after)
  pub body : List (ℕ × Item)
  pub are_rows : AreRows d (path_of d.options old) (table_so_far columns (most_inserted - inserted columns cells) after) (lines_from d.text body_start)
      (taking body (lines_from d.text next))
  pub tree_is : new ≡ closed_by (with_below old (row_block TableHead columns head_start cells head_end ++ body)) next old.spine
  pub later : body_start ≤ next
  pub boundary : IsCharBoundary d.text next

-- Nodes are added to the innermost open node, which is closed after them at an offset. They lie in order between
-- another offset and that one, at most four counted nodes for each byte there (this project).
pub record ClosesBetween (text : List ℕ) (from to : ℕ) (old new : Forest Item) : Type 0 where
  pub items : List (ℕ × Item)
  pub tree_is : new ≡ closed_by (with_below old items) to old.spine
  pub fits : FitsBetween text (within_top old) from to items

-- Rows were added to a table, which was closed after them. Each has as many cells as the table has columns. The number
-- of inserted cells is at most the allowed number, or that of the header row if it is more. With tables, the header row
-- has none if its line has at least as many columns (GFM 4.10, and this project).
pub record AddsWholeRows (d : Document) (columns head_start : ℕ) (old new : Forest Item) (next : ℕ) : Type 0 where
  pub items : List (ℕ × Item)
  pub tree_is : new ≡ closed_by (with_below old items) next old.spine
  pub head : RowCells
  pub body : List RowCells
  pub show : (names : Names) → marks names items ≡ row_marks 0 (head ∷ body)
  pub have_cells : HaveCells columns (head ∷ body)
  pub node_bound : inserted_in (head ∷ body) ≤ max most_inserted (inserted_in (head ∷ []))
  pub full_head : has d.options tables ≡ true → columns ≤ head_columns (drop head_start d.text) → inserted_in (head ∷ []) ≡ 0
