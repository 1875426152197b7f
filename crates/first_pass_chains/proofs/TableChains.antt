-- The chains of the cells of a table are in order.
use Rattle.std.proofs.Common.{◌≡◌, ℕ, zero, suc, ◌+◌, ◌==◌, false, List, [], ◌∷◌, ◌++◌, length, map, take, drop, replicate, slice_index}
use Rattle.std.proofs.Common.{IsUtf8, IsCharBoundary, refl, sym, ap, subst, ◌∙◌, arith}
use Rattle.first_pass_grammar.proofs.Common.{Item, ItemBody, Alignment, Table, TableHead, TableRow, TableCell, pipe, Place, offset, IsPlaceOf, lines_from}
use Rattle.first_pass_grammar.proofs.Common.{MathBraces, no_braces, Spot, spot, Document, around, cell_start, cell_text, cell_block, AreCells, inserted}
use Rattle.first_pass_grammar.proofs.Common.{row_cells, row_block, Taken, IsTable, line_end_boundary}
use Rattle.first_pass_grammar.proofs.Common.{line_len, start_of}
use Rattle.first_pass_grammar.specs.Tables.{FoundRow, TakesRows, row_text}
use Rattle.first_pass_grammar.specs.declared.kind.Container.{Container}
use Rattle.first_pass_grammar.proofs.Order.RowEnds.{text_within}
use Rattle.first_pass_lines.proofs.LineFacts.{first_line}
use Rattle.first_pass_lines.proofs.PlaceFacts.{white_boundary}
use Rattle.first_pass_tokens.proofs.OrderLemmas.{cell_in_order, cell_end_place}
use Rattle.first_pass_tables.proofs.CellsFit.{start_boundary}
use Rattle.first_pass_tables.proofs.RowPlaces.{BeginsRow, begins_row}
use Rattle.first_pass_content.specs.Chains.{AreChains, has_chain}
use Rattle.first_pass_chains.proofs.Backslashes.{cell_follows}
use Rattle.first_pass_chains.proofs.NodeChains.{AreBlocks, Stops, side_chains, chain_block, chains_below, chains_both, deep_none, side_stops}

-- the lines from a character boundary on
abbrev pub AreLater : List ℕ → List Place → Type 0
AreLater text lines = (at : ℕ) × IsCharBoundary text at × (lines ≡ lines_from text at)

-- the lines after the first of them
pub later_next : (text : List ℕ) → IsUtf8 text → (line : Place) (lines : List Place) → AreLater text (line ∷ lines) → AreLater text lines
later_next text utf8 line lines (at, boundary, is) =
    let first = first_line text at line lines is in
    (at + line_len (drop at text), line_end_boundary text at utf8 boundary first.0, first.2)

-- more blocks
blocks_both : (text : List ℕ) (xs ys : List (List (ℕ × Item))) → AreBlocks text xs → AreBlocks text ys → AreBlocks text (xs ++ ys)
blocks_both text [] ys h k = k
blocks_both text (block ∷ xs) ys h k = (h.0, h.1, blocks_both text xs ys h.2 k)

first_blocks : (text : List ℕ) (n : ℕ) (xs : List (List (ℕ × Item))) → AreBlocks text xs → AreBlocks text (take n xs)
first_blocks text zero xs h = tt
first_blocks text (suc n) [] h = tt
first_blocks text (suc n) (block ∷ xs) h = (h.0, h.1, first_blocks text n xs h.2)

block_copies : (text : List ℕ) (n : ℕ) (block : List (ℕ × Item)) → AreChains text block → Stops 0 block → AreBlocks text (replicate n block)
block_copies text zero block h k = tt
block_copies text (suc n) block h k = (h, k, block_copies text n block h k)

-- where the text of a cell begins
cell_boundary : (text : List ℕ) (at : ℕ) → IsUtf8 text → IsCharBoundary text at → IsCharBoundary text (cell_text text at)
cell_boundary text at utf8 boundary =
    white_boundary text (cell_start text at) utf8 (start_boundary text at (slice_index text at == pipe) refl utf8 boundary)

module _ (d : Document) (utf8 : IsUtf8 d.text) where
  -- the cells of a row
  cells_are : (p : Spot) (cells : List (List (ℕ × Item))) (to : Spot) → IsCharBoundary d.text p.at → AreCells d p cells to → AreBlocks d.text cells
  unfolding AreCells
  cells_are p [] to boundary are = tt
  cells_are p (cell ∷ cells) to boundary (on, tokens, stop, is, same, more) =
      let begins = cell_boundary d.text p.at utf8 boundary in
      let within = (text_within d.text p.at boundary.0).1 in
      let order = cell_in_order utf8 begins within is in
      let block = chain_block d.text (cell_start d.text p.at) stop.at (cell_text d.text p.at) stop.at TableCell tokens order (cell_follows is) in (
        subst (AreChains d.text) (sym same) block,
        subst (Stops 0) (sym same) (omega arith),
        cells_are stop cells to (cell_end_place within is) more,
      )

  -- a row
  row_is : (body : ItemBody) (columns : ℕ) (p : Spot) (cells : List (List (ℕ × Item))) (to : Spot) → has_chain body ≡ false → IsCharBoundary d.text p.at
      → AreCells d p cells to → AreChains d.text (row_block body columns p.at cells to.at)
  row_is body columns p cells to none boundary are =
      let empty : List (ℕ × Item) = cell_block to.at to.at [] in
      let blank = chain_block d.text to.at to.at 0 0 TableCell [] (omega arith) tt in
      let all = blocks_both d.text (take columns cells) (replicate (inserted columns cells) empty)
      (first_blocks d.text columns cells (cells_are p cells to boundary are)) (block_copies d.text (inserted columns cells) empty blank (omega arith)) in
      chains_below d.text (record { start = p.at; «end» = to.at; body = body }) (row_cells columns cells to.at) none (side_chains d.text _ all)

  -- the rows of the body
  rows_are : (path : List Container) (columns : ℕ) (before : MathBraces) (rows : List FoundRow) (lines left : List Place) → AreLater d.text lines
      → TakesRows d path before rows lines left
      → AreBlocks d.text (map (λ (row : FoundRow). row_block TableRow columns row.start row.cells row.row_end) rows)
  unfolding TakesRows
  rows_are path columns before [] lines left later takes = tt
  rows_are path columns before (row ∷ rows) [] left later takes = absurd takes
  rows_are path columns before (row ∷ rows) (line ∷ lines) left (at, boundary, is) (has, some, more) =
      let first = first_line d.text at line lines is in
      let begun : BeginsRow d.text (around d path) at row.start =
      begins_row d.text (around d path) at row.start utf8 boundary (ap (row_text (around d path)) (sym first.1) ∙ has.begins) in
      let starts : IsCharBoundary d.text row.start = subst (IsCharBoundary d.text) (sym begun.start_is) begun.stands.boundary in (
        row_is TableRow columns (spot row.start before) row.cells (spot row.row_end row.after) refl starts has.are_cells,
        omega arith,
        rows_are path columns row.after rows lines left (later_next d.text utf8 line lines (at, boundary, is)) more,
      )

  -- A table
  pub table_chains : (path : List Container) (p : Place) (alignments : List Alignment) (lines : List Place) (t : Taken) → IsPlaceOf d.text p
      → AreLater d.text lines → IsTable d path p alignments lines t → AreChains d.text t.items × Stops 0 t.items
  table_chains path p alignments lines t place later h =
      let columns : ℕ = length alignments in
      let head : List (ℕ × Item) = row_block TableHead columns (offset p) h.cells h.head_end in
      let x : Item = record { start = offset p; «end» = start_of (length d.text) t.left; body = Table h.index } in
      let first = row_is TableHead columns (spot (offset p) no_braces) h.cells (spot h.head_end h.after) refl place.boundary h.are_cells in
      let rows = rows_are path columns h.after h.are_rows.rows (drop 1 lines) t.left (below lines later) h.are_rows.takes in
      let body : AreChains d.text h.body = subst (AreChains d.text) (sym h.are_rows.items_are) (side_chains d.text _ rows) in
      let stops : Stops 0 h.body = subst (Stops 0) (sym h.are_rows.items_are) (side_stops d.text _ rows) in (
        subst (AreChains d.text) (sym h.items_are) (chains_below d.text x (head ++ h.body) refl
            (chains_both d.text 0 head h.body (deep_none head) stops first body)),
        subst (Stops 0) (sym h.items_are) (omega arith),
      )
    where
      below : (lines : List Place) → AreLater d.text lines → AreLater d.text (drop 1 lines)
      below [] later = later
      below (line ∷ lines) later = later_next d.text utf8 line lines later
