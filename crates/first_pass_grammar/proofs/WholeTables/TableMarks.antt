-- The marks of a table's nodes: each row has as many cells as there are columns, and the number of inserted cells is
-- limited.
use Rattle.std.proofs.Common.{◌≡◌, inl, inr, ℕ, zero, suc, ◌+◌, ◌-◌, ◌<◌, ◌≤◌, nat_lt, nat_le, true, false, List, ◌∷◌, ◌++◌, length, map, take, drop, replicate}
use Rattle.std.proofs.Common.{refl, sym, ap, ◌∙◌, arith, eq-eqb, leb-true, true≢false, append_assoc, append-nil, ◌||◌, []}
use Rattle.first_pass_grammar.proofs.Common.{cases_lt, and_parts, false≢true, map-append, at_drop_all, Alignment, Item, ItemBody, Table, TableHead, TableRow}
use Rattle.first_pass_grammar.proofs.Common.{at_depth, at_line_end, Place, offset, start_of, line_len-within, MathBraces, no_braces, Spot, spot, IsCell, leaves}
use Rattle.first_pass_grammar.proofs.Common.{cell_ends, Names, Document, cell_content, cell_start, cell_text, cell_block, AreCells, inserted, side_by_side}
use Rattle.first_pass_grammar.proofs.Common.{row_cells, row_block, Taken, TableSoFar, table_so_far, AreRows, most_inserted, IsTable, Mark, ATable, ARow, ACell}
use Rattle.first_pass_grammar.proofs.Common.{shown, marks, RowCells, row_marks, TableRows, table_marks, HaveCells, AreFull, AreWholeTables, ShowsNothing}
use Rattle.first_pass_grammar.proofs.Common.{AreEachNode, AllZip, is_markup, CowStr, or_right}
use Rattle.first_pass_grammar.specs.declared.kind.Container.{Container}
use Rattle.first_pass_grammar.specs.WholeTables.{how_often, inserted_in, StartApart}
use Rattle.first_pass_grammar.proofs.Count.RowsWithRoom.{with_row, RowsWithRoom, counted}
use Rattle.first_pass_grammar.proofs.Each.EachToken.{HoldsOfTokens, cell_each}
use Rattle.first_pass_grammar.proofs.Each.EachCell.{deeper_nodes, leaves_nodes}
use Rattle.first_pass_grammar.proofs.Each.EachPair.{first_pairs, pair_copies, both_pairs}
use Rattle.first_pass_grammar.proofs.Order.RowEnds.{row_ends_its_line, next_starts_later}
use Rattle.first_pass_grammar.proofs.WholeTables.TableRows.{as_many_cells}
use Rattle.first_pass_grammar.proofs.Names.TokensNamed.{NamesWithin}
use Rattle.first_pass_grammar.proofs.Each.EachBlock.{is_first, is_later, is_line_part}

-- the marks of more nodes
pub marks-append : (names : Names) (nodes more : List (ℕ × Item)) → marks names (nodes ++ more) ≡ marks names nodes ++ marks names more
unfolding marks
marks-append names [] more = refl
marks-append names (n ∷ nodes) more = rw (marks-append names nodes more, append_assoc)

-- a mark, this much deeper
abbrev pub mark_deeper : ℕ → Mark → Mark
mark_deeper d (ATable depth columns) = ATable (d + depth) columns
mark_deeper d (ARow depth «end») = ARow (d + depth) «end»
mark_deeper d (ACell depth start) = ACell (d + depth) start

shown_deeper : (names : Names) (d depth start «end» : ℕ) (b : ItemBody)
    → shown names (d + depth) start «end» b ≡ map (mark_deeper d) (shown names depth start «end» b)
shown_deeper names d depth start «end» b = grind arith

-- the marks of nodes at another depth
pub marks-at_depth : (names : Names) (d : ℕ) (nodes : List (ℕ × Item)) → marks names (at_depth d nodes) ≡ map (mark_deeper d) (marks names nodes)
unfolding marks
marks-at_depth names d [] = refl
marks-at_depth names d (n ∷ nodes) = grind (arith, shown_deeper, map-append, marks-at_depth names d nodes)

-- cells, rows and tables, this much deeper
cells_deeper : (d depth : ℕ) (starts : List ℕ) → map (mark_deeper d) (map (ACell depth) starts) ≡ map (ACell (d + depth)) starts
cells_deeper d depth [] = refl
cells_deeper d depth (start ∷ starts) = ap (λ (z : List Mark). ACell (d + depth) start ∷ z) (cells_deeper d depth starts)

rows_deeper : (d depth : ℕ) (rows : List RowCells) → map (mark_deeper d) (row_marks depth rows) ≡ row_marks (d + depth) rows
unfolding row_marks
rows_deeper d depth [] = refl
rows_deeper d depth (row ∷ rows) =
    let one : d + suc depth ≡ suc (d + depth) = omega arith in
    let cells = cells_deeper d (suc depth) row.starts ∙ ap (λ k. map (ACell k) row.starts) one in grind (arith, map-append, rows_deeper d depth rows)

abbrev pub table_deeper : ℕ → TableRows → TableRows
table_deeper d table = record { depth = d + table.depth; columns = table.columns; rows = table.rows }

tables_deeper : (d : ℕ) (tables : List TableRows) → map (mark_deeper d) (table_marks tables) ≡ table_marks (map (table_deeper d) tables)
unfolding table_marks
tables_deeper d [] = refl
tables_deeper d (table ∷ tables) =
    let one : d + suc table.depth ≡ suc (d + table.depth) = omega arith in grind (arith, rows_deeper, map-append, tables_deeper d tables)

full_deeper : (d : ℕ) (tables : List TableRows) → AreFull tables → AreFull (map (table_deeper d) tables)
unfolding AreFull
full_deeper d [] h = h
full_deeper d (table ∷ tables) h = (h.0, h.1, full_deeper d tables h.2)

pub whole_deeper : (names : Names) (d : ℕ) (nodes : List (ℕ × Item)) → AreWholeTables names nodes → AreWholeTables names (at_depth d nodes)
unfolding AreWholeTables
whole_deeper names d nodes (tables, is, full) = (
  map (table_deeper d) tables,
  marks-at_depth names d nodes ∙ ap (map (mark_deeper d)) is ∙ tables_deeper d tables,
  full_deeper d tables full,
)

-- only a table has parts of a table
pub body_shows : (body : ItemBody) → (is_first body || is_later body) ≡ true → ShowsNothing body
body_shows body h = grind (arith, false≢true)

markup_shows : (texts : List CowStr) (body : ItemBody) → is_markup body ≡ true → NamesWithin texts body → ShowsNothing body
markup_shows texts body h k = body_shows body (or_right (is_first body) (is_later body) (or_right (is_line_part body) (is_markup body) h))

pub tokens_show : (texts : List CowStr) → HoldsOfTokens texts ShowsNothing
tokens_show texts = grind (arith, markup_shows)

pub none_shown : (names : Names) (nodes : List (ℕ × Item)) → AreEachNode ShowsNothing nodes → marks names nodes ≡ []
unfolding marks
none_shown names [] h = refl
none_shown names (n ∷ nodes) h = rw (h.0 names n.0 n.1.start n.1.«end», none_shown names nodes h.1) refl

-- The marks of this block are a cell that starts at this offset.
abbrev IsCellAt : Names → List (ℕ × Item) → ℕ → Type 0
IsCellAt names block start = marks names block ≡ ACell 0 start ∷ []

side_shows : (names : Names) (blocks : List (List (ℕ × Item))) (starts : List ℕ) → AllZip (IsCellAt names) blocks starts
    → (marks names (side_by_side blocks) ≡ map (ACell 0) starts) × (length starts ≡ length blocks)
unfolding marks
side_shows names [] [] h = (refl, refl)
side_shows names (block ∷ blocks) (start ∷ starts) h = grind (arith, marks-append, side_shows names blocks starts h.1)
side_shows names blocks starts h = absurd h

-- these offsets are in ascending order, from one offset on and before another
unfoldable AreBetween : ℕ → ℕ → List ℕ → Type 0
AreBetween from «end» [] = Unit {0}
AreBetween from «end» (start ∷ starts) = (from ≤ start) × (start < «end») × AreBetween (suc start) «end» starts

later_between : (low from end : ℕ) (starts : List ℕ) → low ≤ from → AreBetween from end starts → AreBetween low end starts
unfolding AreBetween
later_between low from end [] le h = tt
later_between low from end (start ∷ starts) le h = (let first = h.0 in omega arith, h.1, h.2)

first_between : (from end n : ℕ) (starts : List ℕ) → AreBetween from end starts → AreBetween from end (take n starts)
unfolding AreBetween
first_between from end zero starts h = tt
first_between from end (suc n) [] h = tt
first_between from end (suc n) (start ∷ starts) h = (h.0, h.1, first_between (suc start) end n starts h.2)

never : (from end : ℕ) (starts : List ℕ) → AreBetween from end starts → how_often end starts ≡ 0
unfolding AreBetween how_often
never from end [] h = refl
never from end (start ∷ starts) h = grind (arith, never (suc start) end starts h.2)

-- they start apart, and so they do with copies of the end after them
copies_apart : (end start n : ℕ) → StartApart end (start ∷ replicate n end)
unfolding StartApart
copies_apart end start zero = tt
copies_apart end start (suc n) = (inr refl, copies_apart end end n)

after_apart : (end start n : ℕ) (starts : List ℕ) → AreBetween (suc start) end starts → StartApart end (start ∷ (starts ++ replicate n end))
unfolding AreBetween StartApart
after_apart end start n [] h = copies_apart end start n
after_apart end start n (next ∷ starts) h = (let later = h.0 in inl (omega arith), after_apart end next n starts h.2)

all_apart : (from end n : ℕ) (starts : List ℕ) → AreBetween from end starts → StartApart end (starts ++ replicate n end)
unfolding AreBetween StartApart
all_apart from end zero [] h = tt
all_apart from end (suc n) [] h = copies_apart end end n
all_apart from end n (start ∷ starts) h = after_apart end start n starts h.2

always : (end n : ℕ) → how_often end (replicate n end) ≡ n
unfolding how_often
always end zero = refl
always end (suc n) = (let rest = always end n in let same = eq-eqb end end refl in rw same (omega arith))

often_both : (end : ℕ) (xs ys : List ℕ) → how_often end (xs ++ ys) ≡ how_often end xs + how_often end ys
unfolding how_often
often_both end [] ys = omega arith
often_both end (x ∷ xs) ys = (let rest = often_both end xs ys in omega arith)

-- a written cell starts before the end of its row
written_before : (d : Document) (p : Spot) (tokens : List Item) (stop : Spot) (cells : List (List (ℕ × Item))) (to : Spot)
    → at_line_end (drop (cell_text d.text p.at) d.text) ≡ false
    → IsCell d.names.texts (cell_content d (spot (cell_text d.text p.at) p.braces)) tokens stop.at stop.braces → AreCells d stop cells to
    → (cell_start d.text p.at < to.at) × (stop.at ≤ length d.text) × (cell_text d.text p.at ≤ stop.at)
written_before d p tokens stop cells to on cell more =
    elim (cases_lt (cell_text d.text p.at) (length d.text)) [
      | inl inside ↦
          grind (arith, cell_ends (omega arith) cell, row_ends_its_line d stop cells to ((cell_ends (omega arith) cell).within) more, cases_lt, line_len-within)
      | inr past ↦ absurd (true≢false (sym (at_drop_all (λ (bs : List ℕ). at_line_end bs) d.text (cell_text d.text p.at) past) ∙ on))
    ]

-- the marks of a row's cells have their starts
cell_shows : {after : MathBraces} (d : Document) (p : Spot) (start : ℕ) (tokens : List Item) (stop : ℕ)
    → IsCell d.names.texts (cell_content d p) tokens stop after → marks d.names (cell_block start stop tokens) ≡ ACell 0 start ∷ []
unfolding marks
cell_shows d p start tokens stop h =
    ap (λ (z : List Mark). ACell 0 start ∷ z)
    (none_shown d.names (at_depth 1 (leaves tokens)) (deeper_nodes ShowsNothing 1 (leaves tokens)
    (leaves_nodes ShowsNothing tokens (cell_each d.names.texts ShowsNothing (tokens_show d.names.texts) (cell_content d p) tokens stop h))))

cells_show : (d : Document) (p : Spot) (cells : List (List (ℕ × Item))) (to : Spot) → AreCells d p cells to
    → (starts : List ℕ) × AllZip (IsCellAt d.names) cells starts × AreBetween (cell_start d.text p.at) to.at starts
unfolding AreCells AreBetween
cells_show d p [] to h = ([], tt, tt)
cells_show d p (cell ∷ cells) to (on, tokens, stop, is, e, more) =
    let rest = cells_show d stop cells to more in
    let here = written_before d p tokens stop cells to on is more in
    let own = cell_shows d (spot (cell_text d.text p.at) p.braces) (cell_start d.text p.at) tokens stop.at is in
    let later = next_starts_later d p tokens stop.at on here.2 is in (
      cell_start d.text p.at ∷ rest.0,
      (ap (marks d.names) e ∙ own, rest.1),
      (omega arith, here.0, later_between (suc (cell_start d.text p.at)) (cell_start d.text stop.at) to.at rest.0 (omega arith) rest.2),
    )

-- the marks of these nodes are those of a row: its end, and as many cells as columns, of which so many inserted ones
-- start at its end
abbrev pub ShowsRow : Names → ℕ → ℕ → ℕ → List (ℕ × Item) → Type 0
ShowsRow names columns «end» many items =
    (starts : List ℕ) × (marks names items ≡ ARow 0 «end» ∷ map (ACell 1) starts)
    × (length starts ≡ columns) × StartApart «end» starts × (how_often «end» starts ≡ many)

pub row_shows : (d : Document) (body : ItemBody) (columns : ℕ) (p : Spot) (cells : List (List (ℕ × Item))) (to : Spot)
    → shown d.names 0 p.at to.at body ≡ ARow 0 to.at ∷ [] → AreCells d p cells to
    → ShowsRow d.names columns to.at (inserted columns cells) (row_block body columns p.at cells to.at)
unfolding marks
row_shows d body columns p cells to own are =
    let (starts, show, before) = cells_show d p cells to are in
    let end : ℕ = to.at in
    let n : ℕ = inserted columns cells in
    let both = both_pairs (IsCellAt d.names) (take columns cells) (replicate n (cell_block end end [])) (take columns starts) (replicate n end)
    (first_pairs (IsCellAt d.names) columns cells starts show)
    (pair_copies (IsCellAt d.names) n (cell_block end end []) end refl) in
    let all = side_shows d.names (take columns cells ++ replicate n (cell_block end end [])) (take columns starts ++ replicate n end) both in
    let from : ℕ = cell_start d.text p.at in
    let first = first_between from end columns starts before in
    let none = never from end (take columns starts) first in
    let last = always end n in
    let sum = often_both end (take columns starts) (replicate n end) in (
      take columns starts ++ replicate n end,
      ap (λ (z : List Mark). z ++ marks d.names (at_depth 1 (row_cells columns cells end))) own
          ∙ ap (λ (z : List Mark). ARow 0 end ∷ z)
          (marks-at_depth d.names 1 (row_cells columns cells end) ∙ ap (map (mark_deeper 1)) all.0
          ∙ cells_deeper 1 0 (take columns starts ++ replicate n end)),
      all.1 ∙ as_many_cells columns cells end,
      all_apart from end n (take columns starts) first,
      omega arith,
    )

-- the marks of these nodes are those of the rows of a table body with so many columns, and at most so many inserted
-- cells
abbrev pub ShowRows : Names → ℕ → ℕ → List (ℕ × Item) → Type 0
ShowRows names columns most items = (rows : List RowCells) × (marks names items ≡ row_marks 0 rows) × HaveCells columns rows × (inserted_in rows ≤ most)

none_over : (d : Document) (columns : ℕ) (items : List (ℕ × Item)) → items ≡ [] → (most : ℕ) → ShowRows d.names columns most items
unfolding marks row_marks HaveCells inserted_in
none_over d columns items e most = ([], ap (marks d.names) e, tt, omega arith)

one_over : (names : Names) (columns most «end» many : ℕ) (first more items : List (ℕ × Item)) → items ≡ first ++ more → many ≤ most
    → ShowsRow names columns «end» many first → ShowRows names columns (most - many) more → ShowRows names columns most items
unfolding row_marks HaveCells inserted_in
one_over names columns most end many first more items e fits (starts, show, size, apart, often) (rows, these, have, node_bound) = (
  record { «end» = end; starts = starts } ∷ rows,
  ap (marks names) e ∙ marks-append names first more ∙ (λ i. show i ++ these i),
  (size, apart, have),
  omega arith,
)

counted_show : (d : Document) (path : List Container) (table : TableSoFar) (lines : List Place) (t : Taken) → RowsWithRoom d path table lines t
    → ShowRows d.names table.columns table.room t.items
unfolding RowsWithRoom
counted_show d path table [] t e = none_over d table.columns t.items (ap (λ (z : Taken). z.items) e) table.room
counted_show d path table (line ∷ lines) t (inl (none, e)) = none_over d table.columns t.items (ap (λ (z : Taken). z.items) e) table.room
counted_show d path table (line ∷ lines) t (inr (row, has, inl (stops, e))) = none_over d table.columns t.items (ap (λ (z : Taken). z.items) e) table.room
counted_show d path table (line ∷ lines) t (inr (row, has, inr (is, more, rest, e))) =
    let n : ℕ = inserted table.columns row.cells in
    let fits = leb-true n table.room (and_parts (nat_lt 0 (length row.cells)) (nat_le n table.room) is).1 in
    one_over d.names table.columns table.room row.row_end n (row_block TableRow table.columns row.start row.cells row.row_end) more.items t.items
    (ap (λ (z : Taken). z.items) e) fits
    (row_shows d TableRow table.columns (spot row.start table.braces) row.cells (spot row.row_end row.after) refl has.are_cells)
    (counted_show d path (with_row table row) lines more rest)

pub rows_show : (d : Document) (path : List Container) (table : TableSoFar) (lines : List Place) (t : Taken) → AreRows d path table lines t
    → ShowRows d.names table.columns table.room t.items
rows_show d path table lines t h = counted_show d path table lines t (counted d path table lines t h)

-- The marks of a table are those of one table, which is whole if its header row needs no more inserted cells than
-- allowed.
pub table_shows : (d : Document) (path : List Container) (p : Place) (alignments : List Alignment) (lines : List Place) (t : Taken)
    → (h : IsTable d path p alignments lines t) → inserted (length alignments) h.cells ≤ most_inserted → AreWholeTables d.names t.items
unfolding AreWholeTables marks row_marks table_marks HaveCells inserted_in AreFull
table_shows d path p alignments lines t h low =
    let columns : ℕ = length alignments in
    let (starts, show, size, apart, often) =
    row_shows d TableHead columns (spot (offset p) no_braces) h.cells (spot h.head_end h.after) refl h.are_cells in
    let (rows, these, have, node_bound) =
    rows_show d path (table_so_far columns (most_inserted - inserted columns h.cells) h.after) (drop 1 lines) _ h.are_rows in
    let head : List (ℕ × Item) = row_block TableHead columns (offset p) h.cells h.head_end in
    let first : RowCells = record { «end» = h.head_end; starts = starts } in
    let count : shown d.names 0 (offset p) (start_of (length d.text) t.left) (Table h.index) ≡ ATable 0 columns ∷ [] = rw h.named refl in
    let own : marks d.names (head ++ h.body) ≡ row_marks 0 (first ∷ rows) = marks-append d.names head h.body ∙ (λ i. show i ++ these i) in
    let inside : marks d.names (at_depth 1 (head ++ h.body)) ≡ row_marks 1 (first ∷ rows) =
    marks-at_depth d.names 1 (head ++ h.body) ∙ ap (map (mark_deeper 1)) own ∙ rows_deeper 1 0 (first ∷ rows) in (
      record { depth = 0; columns = columns; rows = first ∷ rows } ∷ [],
      ap (marks d.names) h.items_are ∙ (λ i. count i ++ (inside ∙ sym (append-nil (row_marks 1 (first ∷ rows)))) i),
      ((size, apart, have), omega arith, tt),
    )
