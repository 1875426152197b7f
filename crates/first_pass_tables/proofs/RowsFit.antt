-- The rows of a table are in order between the first of its lines and the first line that is no row of it.
use Rattle.std.proofs.Common.{◌≡◌, inl, inr, ℕ, ◌+◌, ◌-◌, ◌*◌, ◌≤◌, List, [], ◌∷◌, ◌++◌, length, nat_lt, nat_le, IsUtf8, IsCharBoundary, sym, ap, subst, ◌∙◌}
use Rattle.std.proofs.Common.{arith, ltb-true, refl}
use Rattle.first_pass_grammar.proofs.Common.{and_parts, Item, TableHead, TableRow, Place, start_of, start_of-lines, Spot, spot, no_braces, lines_from}
use Rattle.first_pass_grammar.proofs.Common.{Document, around, AreCells, FoundRow, inserted, row_block, row_text, Taken, taking, TableSoFar, table_so_far}
use Rattle.first_pass_grammar.proofs.Common.{most_inserted, AreRows}
use Rattle.first_pass_lines.proofs.LineFacts.{first_line}
use Rattle.first_pass_grammar.specs.declared.kind.Container.{Container}
use Rattle.first_pass_grammar.proofs.Count.RowsWithRoom.{with_row, RowsWithRoom, counted}
use Rattle.first_pass_grammar.proofs.Order.RowEnds.{row_ends_its_line}
use Rattle.first_pass_open.specs.Between.{line_end_at}
use Rattle.first_pass_tables.proofs.RowPlaces.{begins_row, row_line}
use Rattle.first_pass_tables.proofs.CellsFit.{FewBetween, few-none, few-order, few-join, few-wider, some_cells, row_boundary, row_fits}

-- The rows that are taken lie between an offset and the start of the lines left. They have at most four counted nodes
-- for each byte there.
abbrev RowsTaken : List ℕ → ℕ → Taken → Type 0
RowsTaken text n t = (let to : ℕ = start_of (length text) t.left in FewBetween text n to (4 * (to - n)) t.items)

no_rows : (text : List ℕ) (n : ℕ) (lines : List Place) (t : Taken) → n ≤ length text → lines ≡ lines_from text n → t ≡ taking [] lines → RowsTaken text n t
no_rows text n lines t within is e =
    let there : start_of (length text) lines ≡ n = ap (start_of (length text)) is ∙ start_of-lines text n within in
    subst (RowsTaken text n) (sym e) (few-none _ (omega arith))

-- The rows of a table's body are so between the first of its lines and the first line that is no row.
counted_fit : (d : Document) (path : List Container) (table : TableSoFar) (lines : List Place) (n : ℕ) (t : Taken) → IsUtf8 d.text
    → IsCharBoundary d.text n → lines ≡ lines_from d.text n → RowsWithRoom d path table lines t → RowsTaken d.text n t
unfolding RowsWithRoom
counted_fit d path table [] n t utf8 boundary is e = no_rows d.text n [] t boundary.0 is e
counted_fit d path table (line ∷ lines) n t utf8 boundary is (inl (none, e)) = no_rows d.text n (line ∷ lines) t boundary.0 is e
counted_fit d path table (line ∷ lines) n t utf8 boundary is (inr (row, has, inl (stops, e))) = no_rows d.text n (line ∷ lines) t boundary.0 is e
counted_fit d path table (line ∷ lines) n t utf8 boundary is (inr (row, has, inr (kept, more, rest, e))) =
    let begin : Spot = spot row.start table.braces in
    let ended : Spot = spot row.row_end row.after in
    let are = has.are_cells in
    let (within, line_is, lines_are) = first_line d.text n line lines is in
    let here = ap (row_text (around d path)) (sym line_is) ∙ has.begins in
    let p = begins_row d.text (around d path) n row.start utf8 boundary here in
    let following = p.following in
    let starts : IsCharBoundary d.text row.start = subst (IsCharBoundary d.text) (sym p.start_is) p.stands.boundary in
    let ends = row_line d path n begin row.cells ended utf8 boundary here are in
    let further = counted_fit d path (with_row table row) lines row.row_end more utf8 (row_boundary d begin row.cells ended utf8 starts are)
    (lines_are ∙ ap (lines_from d.text) (sym ends)) rest in
    let order = few-order further in
    let some = ltb-true 0 (length row.cells) (and_parts (nat_lt 0 (length row.cells)) (nat_le (inserted table.columns row.cells) table.room) kept).0 in
    let byte = some_cells d begin row.cells ended utf8 starts are some in
    subst (RowsTaken d.text n) (sym e)
    (few-join (few-wider (row_fits d TableRow table.columns begin row.cells ended utf8 starts are) following (omega arith)) further (omega arith))

rows_fit : (d : Document) (path : List Container) (table : TableSoFar) (n : ℕ) (body : List (ℕ × Item)) (next : ℕ) → IsUtf8 d.text
    → IsCharBoundary d.text n → IsCharBoundary d.text next → AreRows d path table (lines_from d.text n) (taking body (lines_from d.text next))
    → FewBetween d.text n next (4 * (next - n)) body
rows_fit d path table n body next utf8 boundary ends h =
    subst (λ (k : ℕ). FewBetween d.text n k (4 * (k - n)) body) (start_of-lines d.text next ends.0)
    (counted_fit d path table (lines_from d.text n) n (taking body (lines_from d.text next)) utf8 boundary refl (counted d path table _ _ h))

-- The header row of a table and the lines of its body begin at character boundaries, the body after the line of the
-- header row.
pub record RowStarts (text : List ℕ) (head_start body_start : ℕ) : Type 0 where
  pub head : IsCharBoundary text head_start
  pub body : IsCharBoundary text body_start
  pub apart : line_end_at text head_start ≤ body_start

-- The header row and the rows after it are in order between the start of the header row and the first line that is no
-- row.
pub all_rows_fit : (d : Document) (path : List Container) (columns : ℕ) (head : FoundRow) (body_start : ℕ) (body : List (ℕ × Item)) (next : ℕ)
    → IsUtf8 d.text → RowStarts d.text head.start body_start → IsCharBoundary d.text next
    → AreCells d (spot head.start no_braces) head.cells (spot head.row_end head.after)
    → AreRows d path (table_so_far columns (most_inserted - inserted columns head.cells) head.after) (lines_from d.text body_start)
    (taking body (lines_from d.text next))
    → FewBetween d.text head.start next (2 + 2 * (line_end_at d.text head.start - head.start) + 4 * (next - body_start))
    (row_block TableHead columns head.start head.cells head.row_end ++ body) × (body_start ≤ next)
all_rows_fit d path columns head body_start body next utf8 starts ends are_cells are_rows =
    let stop : Spot = spot head.row_end head.after in
    let row = row_fits d TableHead columns (spot head.start no_braces) head.cells stop utf8 starts.head are_cells in
    let rows = rows_fit d path _ body_start body next utf8 starts.body ends are_rows in
    let apart = starts.apart in
    let line : head.row_end ≡ line_end_at d.text head.start =
    row_ends_its_line d (spot head.start no_braces) head.cells stop starts.head.0 are_cells in
    (few-join (few-wider row (omega arith) (omega arith)) rows (omega arith), few-order rows)
