-- A table that is opened, and closed after its rows, keeps whole tables.
use Rattle.std.proofs.Common.{◌≡◌, ℕ, suc, ◌+◌, ◌≤◌, List, [], ◌∷◌, ◌++◌, length, map, slice_get, refl, sym, ap, ◌∙◌, arith, append-nil, unwrap_or}
use Rattle.first_pass_grammar.proofs.Common.{false≢true, map-append, Item, Alignment, AlignmentIndex, TreeIndex, Forest, added, block_of, at_depth, Document}
use Rattle.first_pass_grammar.proofs.Common.{Names, Extends, AreNamed, AreWholeTables, HasWholeTables, Mark, ATable, ARow, ACell, RowCells, TableRows, AreFull}
use Rattle.first_pass_grammar.proofs.Common.{HaveCells, marks, row_marks, table_marks, most_inserted}
use Rattle.first_pass.proofs.Common.{Table, begun, popped, AddsWholeRows, inserted_in, AddsTexts, mark_deeper, marks-at_depth}
use Rattle.first_pass_blocks.proofs.Common.{PassState, begun_item, block_whole, closed_by, kept_of, with_below}
use Rattle.first_pass_grammar.specs.Names.{alignments_named}
use Rattle.first_pass_tree.proofs.Blocks.{block-built}

-- rows at another depth
cells_deeper : (d depth : ℕ) (starts : List ℕ) → map (mark_deeper d) (map (ACell depth) starts) ≡ map (ACell (d + depth)) starts
cells_deeper d depth [] = refl
cells_deeper d depth (start ∷ starts) = ap (λ (z : List Mark). ACell (d + depth) start ∷ z) (cells_deeper d depth starts)

rows_deeper : (d depth : ℕ) (rows : List RowCells) → map (mark_deeper d) (row_marks depth rows) ≡ row_marks (d + depth) rows
unfolding row_marks
rows_deeper d depth [] = refl
rows_deeper d depth (row ∷ rows) =
    let one : d + suc depth ≡ suc (d + depth) = omega arith in
    let cells = cells_deeper d (suc depth) row.starts ∙ ap (λ k. map (ACell k) row.starts) one in
    let more = rows_deeper d depth rows in
    map-append (mark_deeper d) (ARow depth row.«end» ∷ map (ACell (suc depth)) row.starts) (row_marks depth rows)
    ∙ (λ i. (ARow (d + depth) row.«end» ∷ cells i) ++ more i)

-- the marks of a table
table_shows : (names : Names) (start e : ℕ) (index : AlignmentIndex) (items : List (ℕ × Item)) (columns : ℕ) (rows : List RowCells)
    → length (alignments_named names index) ≡ columns → marks names items ≡ row_marks 0 rows
    → marks names (block_of (record { start = start; «end» = e; body = Table index }) items)
    ≡ table_marks (record { depth = 0; columns = columns; rows = rows } ∷ [])
unfolding marks table_marks
table_shows names start e index items columns rows width show =
    ap (λ n. ATable 0 n ∷ marks names (at_depth 1 items)) width
    ∙ ap (λ (z : List Mark). ATable 0 columns ∷ z)
    (marks-at_depth names 1 items ∙ ap (map (mark_deeper 1)) show ∙ rows_deeper 1 0 rows ∙ sym (append-nil (row_marks 1 rows)))

one_table : (names : Names) (nodes : List (ℕ × Item)) (t : TableRows) → marks names nodes ≡ table_marks (t ∷ []) → HaveCells t.columns t.rows
    → inserted_in t.rows ≤ most_inserted → AreWholeTables names nodes
unfolding AreWholeTables AreFull
one_table names nodes t is cells most = (t ∷ [], is, (cells, most, tt))

module _ (d : Document) (before : Names) (r : PassState) (start : ℕ) (index : AlignmentIndex) (columns head_start : ℕ) where
  pub closed_table_whole : (old new : Forest Item) (next : ℕ) → old ≡ (begun start (Table index) r).tree → AddsTexts d.names before → Extends d.names before
      → (w : AddsWholeRows d columns head_start old new next) → length (alignments_named before index) ≡ columns
      → inserted_in (w.head ∷ []) ≤ most_inserted → AreNamed before r.tree.nodes → HasWholeTables before r.tree → HasWholeTables d.names new
  closed_table_whole old new next is texts more w width few named h =
      let x : Item = begun_item start (Table index) in
      let place : TreeIndex = record { 0 = length r.tree.nodes } in
      let spine : old.spine ≡ place ∷ r.tree.spine = ap (λ (f : Forest Item). f.spine) is in
      let full : Forest Item = with_below old w.items in
      let block : List (ℕ × Item) = block_of (record x { «end» = next }) w.items in
      let added_is : new ≡ added r.tree block =
      w.tree_is ∙ ap (closed_by full next) spine
      ∙ block-built r.tree x (λ (z : Item). record z { «end» = next }) w.items place (popped full place r.tree.spine) (record {
        opened = old;
        filled = full;
        at = refl;
        opened_is = is;
        nodes = refl;
        spine = refl;
        around = spine;
        closed_is = refl;
      }) in
      let rows : List RowCells = w.head ∷ w.body in
      let node_bound = w.node_bound in
      let most : inserted_in rows ≤ most_inserted = omega arith in
      let same = ap (λ (lists : List (List Alignment)). length (unwrap_or (slice_get lists index.0) [])) texts.alignments in
      let shows = table_shows d.names start next index w.items columns rows (same ∙ width) (w.show d.names) in
      block_whole d.names before r.tree new block more added_is
      (one_table d.names block (record { depth = 0; columns = columns; rows = rows }) shows w.have_cells most) (λ may. absurd (false≢true may)) named
      (kept_of before r.tree h)
