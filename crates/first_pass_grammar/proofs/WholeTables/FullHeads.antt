-- No cell is inserted into the header row of a table.
use Rattle.std.proofs.Common.{◌≡◌, ℕ, ◌&&◌, Bool, true, List, length, Option, Some, None, arith, if◌then◌else◌, option_and_then}
use Rattle.first_pass_grammar.proofs.Common.{none-some, cond_some, Alignment, Item, Place, offset, no_braces, Spot, spot}
use Rattle.first_pass_grammar.proofs.Common.{Document, around, if_as_many, table_at, headed_table, AreCells, inserted}
use Rattle.first_pass_grammar.specs.declared.kind.Container.{Container}
use Rattle.first_pass_grammar.proofs.Sequences.PlacesKept.{IsAt}
use Rattle.first_pass_grammar.proofs.WholeTables.WholeBlocks.{HeadsAreFull}
use Rattle.first_pass_grammar.proofs.WholeTables.HeadCells.{head_has_cells}

-- the columns of a table whose header row is the first line of a text
table_columns : (columns : ℕ) (o : Option (List Alignment)) (alignments : List Alignment) → option_and_then (if_as_many columns) o ≡ Some alignments
    → length alignments ≡ columns
table_columns columns o alignments e = grind (arith, none-some, cond_some)

headed_by : (t s : Bool) (o : Option (List Alignment)) (alignments : List Alignment) → (if t && s then o else None) ≡ Some alignments
    → (t ≡ true) × (o ≡ Some alignments)
headed_by t s o alignments e = grind arith

-- No cell is inserted into a header row.
pub head_is_full : (d : Document) (path : List Container) (p : Place) (alignments : List Alignment) (cells : List (List (ℕ × Item))) (to : Spot) → IsAt d.text p
    → headed_table (around d path) p.rest.left ≡ Some alignments → AreCells d (spot (offset p) no_braces) cells to → inserted (length alignments) cells ≡ 0
unfolding headed_table table_at
head_is_full d path p alignments cells to i e are = grind (arith, headed_by, table_columns, head_has_cells)

pub heads_are_full : (d : Document) → HeadsAreFull d
heads_are_full d path p alignments lines t i e h = grind (arith, head_is_full)
