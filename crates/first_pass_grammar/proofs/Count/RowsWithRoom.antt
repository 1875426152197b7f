-- The rows of a table are found by a count that falls: how many more cells may be inserted into them.
use Rattle.std.proofs.Common.{◌≡◌, ◌⊎◌, inl, inr, ℕ, ◌-◌, ◌<◌, ◌≤◌, ◌&&◌, Bool, true, false, nat_lt, nat_le, List, ◌∷◌, ◌++◌, length, None, refl, sym, ap}
use Rattle.std.proofs.Common.{subst, arith, []}
use Rattle.first_pass_grammar.proofs.Common.{nat_tests, Item, TableRow, Place, Document, around, inserted, row_block, row_text, Taken, taking, FoundRow}
use Rattle.first_pass_grammar.proofs.Common.{HasCells, TableSoFar, table_so_far, AreRows}
use Rattle.first_pass_grammar.specs.declared.kind.Container.{Container}
use Rattle.first_pass_grammar.specs.Tables.{TakesRows, all_inserted, with_rows, EndRows, row_blocks}

-- a line with these cells is a row if it has a cell and needs no more inserted cells than allowed
abbrev pub is_row : TableSoFar → List (List (ℕ × Item)) → Bool
is_row table cells = nat_lt 0 (length cells) && nat_le (inserted table.columns cells) table.room

-- a table after one more row
abbrev pub with_row : TableSoFar → FoundRow → TableSoFar
with_row table row = table_so_far table.columns (table.room - inserted table.columns row.cells) row.after

-- The rows of a table among lines, up to the first line that is no row; the number of inserted cells that are allowed
-- falls with each row.
unfoldable pub RowsWithRoom : Document → List Container → TableSoFar → List Place → Taken → Type 0
RowsWithRoom d path table [] t = t ≡ taking [] []
RowsWithRoom d path table (line ∷ lines) t =
    ((row_text (around d path) line ≡ None) × (t ≡ taking [] (line ∷ lines)))
    ⊎ ((row : FoundRow) × HasCells d path line table.braces row
    × (((is_row table row.cells ≡ false) × (t ≡ taking [] (line ∷ lines)))
    ⊎ ((is_row table row.cells ≡ true)
    × (more : Taken) × RowsWithRoom d path (with_row table row) lines more
    × (t ≡ taking (row_block TableRow table.columns row.start row.cells row.row_end ++ more.items) more.left))))

-- a row has a cell, and its inserted cells are allowed; otherwise it has no cell, or needs more inserted cells than
-- allowed
row_parts : (table : TableSoFar) (cells : List (List (ℕ × Item))) → is_row table cells ≡ true
    → (0 < length cells) × (inserted table.columns cells ≤ table.room)
row_parts table cells h = grind (arith, nat_tests, h)

row_of : (table : TableSoFar) (cells : List (List (ℕ × Item))) → 0 < length cells → inserted table.columns cells ≤ table.room → is_row table cells ≡ true
row_of table cells some node_bound = grind (arith, nat_tests)

-- the number of inserted cells that are allowed in a table before any is inserted
all_room : (table : TableSoFar) → table_so_far table.columns (table.room - 0) table.braces ≡ table
all_room table = grind arith

no_row : (table : TableSoFar) (cells : List (List (ℕ × Item))) → is_row table cells ≡ false → (cells ≡ []) ⊎ (table.room < inserted table.columns cells)
no_row table [] h = inl refl
no_row table (cell ∷ cells) h = inr (grind (arith, nat_tests, h))

none_of : (table : TableSoFar) (cells : List (List (ℕ × Item))) → (cells ≡ []) ⊎ (table.room < inserted table.columns cells) → is_row table cells ≡ false
none_of table cells h = grind (arith, nat_tests, h)

-- rows end after a first row and other rows if they end after all of them
rows_after : (table : TableSoFar) (row : FoundRow) (rows : List FoundRow) → with_rows (with_row table row) rows ≡ with_rows table (row ∷ rows)
rows_after table row rows = grind arith

-- each longest run of rows is found by the count
none_counted : (d : Document) (path : List Container) (table : TableSoFar) (lines : List Place) → EndRows d path table lines
    → RowsWithRoom d path table lines (taking [] lines)
unfolding EndRows RowsWithRoom
none_counted d path table lines h = grind (arith, none_of)

all_counted : (d : Document) (path : List Container) (table : TableSoFar) (rows : List FoundRow) (lines left : List Place)
    → TakesRows d path table.braces rows lines left → all_inserted table.columns rows ≤ table.room → EndRows d path (with_rows table rows) left
    → RowsWithRoom d path table lines (taking (row_blocks table.columns rows) left)
unfolding TakesRows RowsWithRoom
all_counted d path table [] lines left same fits ends = grind (arith, none_counted, all_room)
all_counted d path table (row ∷ rows) [] left none fits ends = absurd none
all_counted d path table (row ∷ rows) (line ∷ lines) left (has, some, takes) fits ends =
    let here : inserted table.columns row.cells ≤ table.room = omega arith in
    let more = all_counted d path (with_row table row) rows lines left takes (omega arith)
    (subst (λ z. EndRows d path z left) (sym (rows_after table row rows)) ends) in
    inr (row, has, inr (row_of table row.cells some here, taking (row_blocks table.columns rows) left, more, refl))

pub counted : (d : Document) (path : List Container) (table : TableSoFar) (lines : List Place) (t : Taken) → AreRows d path table lines t
    → RowsWithRoom d path table lines t
counted d path table lines t h = grind (arith, all_counted)

-- what the count finds is a longest run of rows
no_rows : (d : Document) (path : List Container) (table : TableSoFar) (lines : List Place) (t : Taken) → t ≡ taking [] lines → EndRows d path table lines
    → AreRows d path table lines t
unfolding TakesRows
no_rows d path table lines t e ends = grind (arith, all_room)

one_row : (d : Document) (path : List Container) (table : TableSoFar) (line : Place) (lines : List Place) (row : FoundRow) (more : Taken)
    → HasCells d path line table.braces row → is_row table row.cells ≡ true → AreRows d path (with_row table row) lines more
    → AreRows d path table (line ∷ lines) (taking (row_block TableRow table.columns row.start row.cells row.row_end ++ more.items) more.left)
unfolding TakesRows
one_row d path table line lines row more has is h =
    let parts = row_parts table row.cells is in
    let fits = h.fits in
    let low = parts.1 in record {
      rows = row ∷ h.rows;
      takes = (has, parts.0, h.takes);
      fits = omega arith;
      ends = subst (λ z. EndRows d path z more.left) (rows_after table row h.rows) h.ends;
      items_are = ap (λ z. row_block TableRow table.columns row.start row.cells row.row_end ++ z) h.items_are;
    }

pub are_rows : (d : Document) (path : List Container) (table : TableSoFar) (lines : List Place) (t : Taken) → RowsWithRoom d path table lines t
    → AreRows d path table lines t
unfolding RowsWithRoom EndRows
are_rows d path table [] t e = no_rows d path table [] t e tt
are_rows d path table (line ∷ lines) t (inl (none, e)) = no_rows d path table (line ∷ lines) t e (inl none)
are_rows d path table (line ∷ lines) t (inr (row, has, inl (stops, e))) = grind (arith, no_rows, no_row)
are_rows d path table (line ∷ lines) t (inr (row, has, inr (is, more, rest, e))) =
    grind (arith, one_row, are_rows d path (with_row table row) lines more rest)
