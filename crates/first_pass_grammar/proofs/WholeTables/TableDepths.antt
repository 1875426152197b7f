-- Rows are one deeper than their table.
use Rattle.std.proofs.Common.{◌≡◌, ℕ, suc, ◌++◌, List, ◌∷◌, arith, []}
use Rattle.first_pass_grammar.proofs.Common.{AlignmentIndex, Item, Table, TableHead, Names, Mark, ATable, ARow, marks, RowCells, row_marks, TableRows}
use Rattle.first_pass_grammar.proofs.Common.{table_marks, AreWholeTables}

-- a row at this depth does not follow a table at the same depth
not_beside : (depth at stop : ℕ) (ms : List Mark) (rows : List RowCells) (tables : List TableRows) → depth ≡ at
    → ARow depth stop ∷ ms ≡ row_marks (suc at) rows ++ table_marks tables → ⊥
unfolding row_marks table_marks
not_beside depth at stop ms [] [] same e = cc
not_beside depth at stop ms [] (table ∷ tables) same e = cc
not_beside depth at stop ms (row ∷ rows) tables same e = let n : depth ≡ suc at = cc in omega arith

not_whole : (depth columns stop : ℕ) (ms : List Mark) (tables : List TableRows) → ATable depth columns ∷ ARow depth stop ∷ ms ≡ table_marks tables → ⊥
unfolding table_marks
not_whole depth columns stop ms [] e = cc
not_whole depth columns stop ms (table ∷ tables) e = grind (arith, not_beside)

-- a table is not whole if its header row is beside it
pub stand_inside : (names : Names) (depth : ℕ) (table row : Item) (index : AlignmentIndex) (more : List (ℕ × Item)) → table.body ≡ Table index
    → row.body ≡ TableHead → AreWholeTables names ((depth, table) ∷ (depth, row) ∷ more) → ⊥
unfolding AreWholeTables marks
stand_inside names depth table row index more is head (tables, shows, full) = grind (arith, not_whole)
