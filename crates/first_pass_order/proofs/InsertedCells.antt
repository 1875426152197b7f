-- Whole tables have at most as many nodes as counted nodes and inserted cells together.
use Rattle.std.proofs.Common.{◌≡◌, ◌⊎◌, ℕ, suc, ◌+◌, ◌<◌, ◌≤◌, ◌==◌, Bool, true, false, if◌then◌else◌, List, [], ◌∷◌, ◌++◌, length, map, Option, Some, None}
use Rattle.std.proofs.Common.{refl, sym, subst, arith, append_assoc}
use Rattle.first_pass_grammar.proofs.Common.{Item, ItemBody, Table, TableHead, TableRow, TableCell, Names, is_cell, is_inserted_after, own, counted_nodes}
use Rattle.first_pass_grammar.proofs.Common.{Mark, ATable, ARow, ACell, shown, marks, RowCells, row_marks, TableRows, table_marks, HaveCells, AreFull}
use Rattle.first_pass_grammar.proofs.Common.{AreWholeTables, nat_tests}
use Rattle.first_pass_grammar.specs.Counting.{inserted_in_row, inserted_cells}
use Rattle.first_pass_grammar.specs.WholeTables.{StartApart}

-- the start of a row's last cell so far, and the end of the row, after a mark
abbrev cell_after : Option ℕ → Mark → Option ℕ
cell_after cell (ATable depth columns) = cell
cell_after cell (ARow depth «end») = None
cell_after cell (ACell depth start) = Some start

abbrev end_after : Option ℕ → Mark → Option ℕ
end_after «end» (ARow depth e) = Some e
end_after «end» m = «end»

-- an offset is this one
abbrev is_at : Option ℕ → ℕ → Bool
is_at None start = false
is_at (Some at) start = start == at

-- a cell starts there
abbrev starts_at : Option ℕ → Mark → Bool
starts_at at (ACell depth start) = is_at at start
starts_at at m = false

-- the number of cells that start at an offset, which each mark may change
unfoldable matched : (Option ℕ → Mark → Option ℕ) → Option ℕ → List Mark → ℕ
matched after at [] = 0
matched after at (m ∷ ms) = (if starts_at at m then 1 else 0) + matched after (after at m) ms

-- the number of cells that start with the one before them in their row
abbrev repeated : Option ℕ → List Mark → ℕ
repeated cell ms = matched cell_after cell ms

-- the number of cells at their row's end
abbrev at_end : Option ℕ → List Mark → ℕ
at_end «end» ms = matched end_after «end» ms

-- one of the two counts each node
inserted_is : (cell : Option ℕ) (start e : ℕ) → is_inserted_after cell (record { start = start; «end» = e; body = TableCell }) ≡ is_at cell start
inserted_is None start e = refl
inserted_is (Some at) start e = refl

one_or_other : (t : Bool) (m k n : ℕ) → m + k ≡ n → (if t then 0 else 1) + m + ((if t then 1 else 0) + k) ≡ suc n
one_or_other t m k n h = grind arith

plain_past : (cell : Option ℕ) (x : Item) → is_cell x.body ≡ false → is_inserted_after cell x ≡ false
plain_past None x h = refl
plain_past (Some at) x h = rw h refl

-- the nodes without the former cells, and the cells at their row's end, which are the inserted ones
abbrev AreCounted : Names → Option ℕ → Option ℕ → List (ℕ × Item) → List Mark → Type 0
AreCounted names cell «end» nodes ms = (own cell nodes + repeated cell ms ≡ length nodes) × (inserted_in_row «end» nodes ≡ at_end «end» ms)

counted_with : (names : Names) (cell «end» : Option ℕ) (depth start e : ℕ) (b : ItemBody) (nodes : List (ℕ × Item))
    → ((cell «end» : Option ℕ) → AreCounted names cell «end» nodes (marks names nodes))
    → AreCounted names cell «end» ((depth, record { start = start; «end» = e; body = b }) ∷ nodes) (shown names depth start e b ++ marks names nodes)
unfolding own inserted_in_row matched
counted_with names cell end depth start e (Table ix) nodes h =
    let x : Item = record { start = start; «end» = e; body = Table ix } in
    (rw (plain_past cell x refl) (omega (arith, (h cell end).0)), rw (plain_past end x refl) (omega (arith, (h cell end).1)))
counted_with names cell end depth start e TableHead nodes h =
    let x : Item = record { start = start; «end» = e; body = TableHead } in
    (rw (plain_past cell x refl) (omega (arith, (h None (Some e)).0)), rw (plain_past end x refl) (omega (arith, (h None (Some e)).1)))
counted_with names cell end depth start e TableRow nodes h =
    let x : Item = record { start = start; «end» = e; body = TableRow } in
    (rw (plain_past cell x refl) (omega (arith, (h None (Some e)).0)), rw (plain_past end x refl) (omega (arith, (h None (Some e)).1)))
counted_with names cell end depth start e TableCell nodes h = (
  rw (inserted_is cell start e)
      (one_or_other (is_at cell start) (own (Some start) nodes) (repeated (Some start) (marks names nodes)) (length nodes) (h (Some start) end).0),
  rw (inserted_is end start e, (h cell end).1) refl,
)
counted_with names cell end depth start e b nodes h =
    let x : Item = record { start = start; «end» = e; body = b } in
    (rw (plain_past cell x refl) (omega (arith, (h cell end).0)), rw (plain_past end x refl) (omega (arith, (h cell end).1)))

counted : (names : Names) (cell «end» : Option ℕ) (nodes : List (ℕ × Item)) → AreCounted names cell «end» nodes (marks names nodes)
unfolding own inserted_in_row matched marks
counted names cell end [] = (refl, refl)
counted names cell end (n ∷ nodes) =
    counted_with names cell end n.0 n.1.start n.1.«end» n.1.body nodes (λ after later. counted names after later nodes)

-- for any row before these marks, at most as many of their cells start with the one before them as are at their row's
-- end
abbrev FewAre : List Mark → Type 0
FewAre ms = (cell «end» : Option ℕ) → repeated cell ms ≤ at_end «end» ms

one_more : (t u : Bool) (m n : ℕ) → (t ≡ true → u ≡ true) → m ≤ n → (if t then 1 else 0) + m ≤ (if u then 1 else 0) + n
one_more t u m n both h = grind arith

again_at_end : (start next e : ℕ) → (start < next) ⊎ (next ≡ e) → (next == start) ≡ true → (next == e) ≡ true
again_at_end start next e apart same = grind (arith, nat_tests)

cells_after : (depth e start : ℕ) (starts : List ℕ) (ms : List Mark) → StartApart e (start ∷ starts) → FewAre ms
    → repeated (Some start) (map (ACell depth) starts ++ ms) ≤ at_end (Some e) (map (ACell depth) starts ++ ms)
unfolding matched StartApart
cells_after depth e start [] ms apart node_bound = node_bound (Some start) (Some e)
cells_after depth e start (next ∷ starts) ms apart node_bound = grind (arith, one_more, again_at_end, cells_after depth e next starts ms apart.1 node_bound)

first_cells : (depth e : ℕ) (starts : List ℕ) (ms : List Mark) → StartApart e starts → FewAre ms
    → repeated None (map (ACell depth) starts ++ ms) ≤ at_end (Some e) (map (ACell depth) starts ++ ms)
unfolding matched StartApart
first_cells depth e [] ms apart node_bound = node_bound None (Some e)
first_cells depth e (start ∷ starts) ms apart node_bound = grind (arith, one_more, cells_after)

rows_few : (columns depth : ℕ) (rows : List RowCells) (ms : List Mark) → HaveCells columns rows → FewAre ms → FewAre (row_marks depth rows ++ ms)
unfolding matched row_marks HaveCells
rows_few columns depth [] ms have node_bound = node_bound
rows_few columns depth (row ∷ rows) ms have node_bound =
    let rest = first_cells (suc depth) row.«end» row.starts (row_marks depth rows ++ ms) have.1 (rows_few columns depth rows ms have.2 node_bound) in
    let same = append_assoc (map (ACell (suc depth)) row.starts) (row_marks depth rows) ms in
    let whole = subst (λ (z : List Mark). repeated None z ≤ at_end (Some row.«end») z) (sym same) rest in
    λ cell end. omega (arith, whole)

tables_few : (tables : List TableRows) → AreFull tables → FewAre (table_marks tables)
unfolding matched table_marks AreFull
tables_few [] full = λ cell end. omega arith
tables_few (table ∷ tables) full = grind (arith, rows_few, tables_few tables full.2)

pub all_nodes : (names : Names) (nodes : List (ℕ × Item)) → AreWholeTables names nodes → length nodes ≤ counted_nodes nodes + inserted_cells nodes
unfolding AreWholeTables
all_nodes names nodes (tables, are, full) =
    let (sum, same) = counted names None None nodes in
    let node_bound = subst FewAre (sym are) (tables_few tables full) None None in
    omega arith
