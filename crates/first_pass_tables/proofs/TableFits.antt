-- The nodes of a table are in order between its start and its end, at most four of its own for each byte.
use Rattle.std.proofs.Common.{ℕ, ◌-◌, ◌<◌, ◌≤◌, List, ◌++◌, length, drop, IsUtf8, IsCharBoundary, sym, ap, subst, ◌∙◌, arith}
use Rattle.first_pass_grammar.proofs.Common.{Alignment, Item, Table, TableHead, block_of, Place, offset, IsPlaceOf, lines_at-line, line_len-within}
use Rattle.first_pass_grammar.proofs.Common.{line_end_boundary, IsBetween, extent_of, start_of-lines, lines_from, Document, Within, FitsBetween, inserted}
use Rattle.first_pass_grammar.proofs.Common.{row_block, AreRows, taking, table_so_far, most_inserted, IsTable}
use Rattle.first_pass_grammar.specs.declared.kind.Container.{Container}
use Rattle.first_pass_open.specs.Between.{line_end_at}
use Rattle.first_pass_tables.proofs.CellsFit.{few-block, few-fits}
use Rattle.first_pass_tables.proofs.RowsFit.{all_rows_fit}

-- A table whose header row begins at a place, in a line with another after it. The line after the table begins at an
-- offset.
pub record TableAt (d : Document) (path : List Container) (p : Place) (alignments : List Alignment) (next : ℕ) (items : List (ℕ × Item)) : Type 0 where
  pub place : IsPlaceOf d.text p
  pub further : line_end_at d.text (offset p) < length d.text
  pub ends : IsCharBoundary d.text next
  pub table : IsTable d path p alignments (lines_from d.text (line_end_at d.text (offset p))) (taking items (lines_from d.text next))

-- Its nodes are in order. They are between an offset before that place and the first line after the table, at most four
-- of its own for each byte there.
pub table_fits : (d : Document) (path : List Container) (p : Place) (alignments : List Alignment) (next : ℕ) (items : List (ℕ × Item)) (w : Within) (from : ℕ)
    → IsUtf8 d.text → TableAt d path p alignments next items → from ≤ offset p → FitsBetween d.text w from next items
table_fits d path p alignments next items w from utf8 t low =
    let place = t.place in
    let further = t.further in
    let table = t.table in
    let start : ℕ = offset p in
    let mid : ℕ = line_end_at d.text start in
    let following : ℕ = line_end_at d.text mid in
    let columns : ℕ = length alignments in
    let some = (line_len-within d.text mid further).0 in
    let body_boundary = line_end_boundary d.text mid utf8 (line_end_boundary d.text start utf8 place.boundary (omega arith)) further in
    let rows = subst (λ (lines : List Place). AreRows d path (table_so_far columns (most_inserted - inserted columns table.cells) table.after) lines
    (taking table.body (lines_from d.text next))) (ap (λ (lines : List Place). drop 1 lines) (lines_at-line d.text mid further)) table.are_rows in
    let (kids, later) = all_rows_fit d path columns (record { start = start; cells = table.cells; row_end = table.head_end; after = table.after }) following
    table.body next utf8 (record { head = place.boundary; body = body_boundary; apart = omega arith }) t.ends table.are_cells rows in
    let x : ℕ → Item = λ (k : ℕ). record { start = start; «end» = k; body = Table table.index } in
    let is = table.items_are ∙ ap (λ (k : ℕ). block_of (x k) (row_block TableHead columns start table.cells table.head_end ++ table.body))
    (start_of-lines d.text next t.ends.0) in
    let here : IsBetween d.text start next (extent_of (x next)) =
    record { following = omega arith; order = omega arith; before = omega arith; starts = place.boundary; ends = t.ends } in
    subst (FitsBetween d.text w from next) (sym is) (few-fits w (few-block (x next) here kids) low (λ room. omega arith))
