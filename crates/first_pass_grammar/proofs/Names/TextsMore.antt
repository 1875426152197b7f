-- What is read under some names is read the same under names that extend them.
use Rattle.std.proofs.Common.{inl, inr, ℕ, List, ◌∷◌, Option, []}
use Rattle.first_pass_grammar.proofs.Common.{Item, Options, Place, Inline, AreMore, MathBraces, Spot, spot, AreLineTokens, IsCell, line_more, Names}
use Rattle.first_pass_grammar.proofs.Common.{Extends, document, AreCells, FoundRow, HasCells, TableSoFar, Taken, AreRows}
use Rattle.first_pass_tokens.proofs.NamedTexts.{cell_more}
use Rattle.first_pass_grammar.specs.declared.kind.Container.{Container}
use Rattle.first_pass_grammar.specs.Tables.{TakesRows, with_rows, EndRows}

pub texts_later : (later names : Names) → Extends later names → AreMore later.texts names.texts
texts_later later names e = (e.more_texts, e.texts)

-- a line and a cell
pub line_later : {after : MathBraces} (later names : Names) (s : Inline) (tokens : List Item) (answer : ℕ × Option Item) → Extends later names
    → AreLineTokens names.texts s tokens answer after → AreLineTokens later.texts s tokens answer after
line_later later names s tokens answer e h = line_more (texts_later later names e) h

pub cell_later : {after : MathBraces} (later names : Names) (s : Inline) (tokens : List Item) (stop : ℕ) → Extends later names
    → IsCell names.texts s tokens stop after → IsCell later.texts s tokens stop after
cell_later later names s tokens stop e h = cell_more (texts_later later names e) h

-- the cells of a row
pub cells_more : (text : List ℕ) (options : Options) (names later : Names) (p : Spot) (cells : List (List (ℕ × Item))) (to : Spot) → Extends later names
    → AreCells (document text options names) p cells to → AreCells (document text options later) p cells to
unfolding AreCells
cells_more text options names later p [] to e h = h
cells_more text options names later p (cell ∷ cells) to e (on, tokens, next, is, same, more) =
    (on, tokens, next, cell_later later names _ tokens next.at e is, same, cells_more text options names later next cells to e more)

pub row_more : (text : List ℕ) (options : Options) (names later : Names) (path : List Container) (line : Place) (before : MathBraces) (row : FoundRow)
    → Extends later names → HasCells (document text options names) path line before row → HasCells (document text options later) path line before row
row_more text options names later path line before row e h =
    record { begins = h.begins; are_cells = cells_more text options names later (spot row.start before) row.cells (spot row.row_end row.after) e h.are_cells }

-- the rows of a table
takes_more : (text : List ℕ) (options : Options) (names later : Names) (path : List Container) (before : MathBraces) (rows : List FoundRow)
    (lines left : List Place) → Extends later names → TakesRows (document text options names) path before rows lines left
    → TakesRows (document text options later) path before rows lines left
unfolding TakesRows
takes_more text options names later path before [] lines left e h = h
takes_more text options names later path before (row ∷ rows) [] left e h = h
takes_more text options names later path before (row ∷ rows) (line ∷ lines) left e (has, some, more) =
    (row_more text options names later path line before row e has, some, takes_more text options names later path row.after rows lines left e more)

end_more : (text : List ℕ) (options : Options) (names later : Names) (path : List Container) (table : TableSoFar) (lines : List Place)
    → Extends later names → EndRows (document text options names) path table lines → EndRows (document text options later) path table lines
unfolding EndRows
end_more text options names later path table [] e h = h
end_more text options names later path table (line ∷ lines) e (inl none) = inl none
end_more text options names later path table (line ∷ lines) e (inr (row, has, ends)) =
    inr (row, row_more text options names later path line table.braces row e has, ends)

pub rows_more : (text : List ℕ) (options : Options) (names later : Names) (path : List Container) (table : TableSoFar) (lines : List Place) (t : Taken)
    → Extends later names → AreRows (document text options names) path table lines t → AreRows (document text options later) path table lines t
rows_more text options names later path table lines t e h = record {
  rows = h.rows;
  takes = takes_more text options names later path table.braces h.rows lines t.left e h.takes;
  fits = h.fits;
  ends = end_more text options names later path (with_rows table h.rows) t.left e h.ends;
  items_are = h.items_are;
}
