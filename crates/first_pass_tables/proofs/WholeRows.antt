-- The rows of a table that were added are whole.
use Rattle.std.proofs.Common.{◌≡◌, ℕ, suc, ◌-◌, List, [], ◌∷◌, ◌++◌, map, refl, sym, ap, subst, ◌∙◌, arith}
use Rattle.first_pass_grammar.proofs.Common.{Item, ItemBody, Table, TableHead, Forest, no_braces, Spot, spot, Names, Document, lines_from, inserted}
use Rattle.first_pass_grammar.proofs.Common.{row_block, taking, TableSoFar, table_so_far, most_inserted, Mark, ATable, ARow, ACell, shown, marks, RowCells}
use Rattle.first_pass_grammar.proofs.Common.{row_marks, HaveCells}
use Rattle.first_pass_grammar.specs.WholeTables.{inserted_in}
use Rattle.first_pass_grammar.proofs.WholeTables.HeadCells.{head_has_cells}
use Rattle.first_pass_grammar.proofs.WholeTables.TableMarks.{marks-append, row_shows, rows_show}
use Rattle.first_pass_open.specs.Path.{path_of}
use Rattle.first_pass_tables.specs.Appends.{AppendsRows, AddsWholeRows}

-- none of these marks is a table's
HasNoTable : List Mark → Type 0
HasNoTable [] = Unit {0}
HasNoTable (ATable depth columns ∷ marks) = ⊥
HasNoTable (ARow depth «end» ∷ marks) = HasNoTable marks
HasNoTable (ACell depth start ∷ marks) = HasNoTable marks

-- nodes without a table among them have the same marks under any names
shown_free : (m n : Names) (depth start «end» : ℕ) (b : ItemBody) (more : List Mark) → HasNoTable (shown n depth start «end» b ++ more)
    → (shown m depth start «end» b ≡ shown n depth start «end» b) × HasNoTable more
unfolding HasNoTable
shown_free m n depth start end (Table ix) more h = absurd h
shown_free m n depth start end b more h = (refl, h)

marks_free : (m n : Names) (nodes : List (ℕ × Item)) → HasNoTable (marks n nodes) → marks m nodes ≡ marks n nodes
unfolding marks
marks_free m n [] h = refl
marks_free m n (x ∷ nodes) h =
    let first = shown_free m n x.0 x.1.start x.1.«end» x.1.body (marks n nodes) h in
    ap (λ (z : List Mark). z ++ marks m nodes) first.0
    ∙ ap (λ (z : List Mark). shown n x.0 x.1.start x.1.«end» x.1.body ++ z) (marks_free m n nodes first.1)

-- no row is a table
cells_no_table : (depth : ℕ) (starts : List ℕ) (more : List Mark) → HasNoTable more → HasNoTable (map (ACell depth) starts ++ more)
unfolding HasNoTable
cells_no_table depth [] more h = h
cells_no_table depth (start ∷ starts) more h = cells_no_table depth starts more h

rows_no_table : (depth : ℕ) (rows : List RowCells) → HasNoTable (row_marks depth rows)
unfolding row_marks HasNoTable
rows_no_table depth [] = tt
rows_no_table depth (row ∷ rows) = cells_no_table (suc depth) row.starts (row_marks depth rows) (rows_no_table depth rows)

-- the header row and the rows after it
pub added_whole : {d : Document} {columns head_start body_start : ℕ} {old new : Forest Item} {next : ℕ}
    → AppendsRows d columns head_start body_start old new next → AddsWholeRows d columns head_start old new next
unfolding row_marks inserted_in HaveCells
added_whole {d} {columns} {head_start} {body_start} {old} {next = next} r =
    let head : List (ℕ × Item) = row_block TableHead columns head_start r.cells r.head_end in
    let begin : Spot = spot head_start no_braces in
    let stop : Spot = spot r.head_end r.after in
    let table : TableSoFar = table_so_far columns (most_inserted - inserted columns r.cells) r.after in
    let (starts, show, size, apart, often) = row_shows d TableHead columns begin r.cells stop refl r.are_cells in
    let (rows, these, have, node_bound) = rows_show d (path_of d.options old) table (lines_from d.text body_start) (taking r.body (lines_from d.text next))
    r.are_rows in
    let first : RowCells = record { «end» = r.head_end; starts = starts } in
    let all : marks d.names (head ++ r.body) ≡ row_marks 0 (first ∷ rows) =
    marks-append d.names head r.body ∙ ap (λ (z : List Mark). z ++ marks d.names r.body) show
    ∙ ap (λ (z : List Mark). (ARow 0 r.head_end ∷ map (ACell 1) starts) ++ z) these in
    record {
      items = head ++ r.body;
      tree_is = r.tree_is;
      head = first;
      body = rows;
      show = λ names. marks_free names d.names (head ++ r.body) (subst HasNoTable (sym all) (rows_no_table 0 (first ∷ rows))) ∙ all;
      have_cells = (size, apart, have);
      node_bound = omega arith;
      full_head = λ on as_many. let least = head_has_cells d begin r.cells stop on r.are_cells in omega arith;
    }
