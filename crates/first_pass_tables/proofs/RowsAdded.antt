-- A row that is read is in order where it is added, and so are the rows of a table before the table is closed.
use Rattle.std.proofs.Common.{◌≡◌, inl, inr, ℕ, ◌-◌, ◌≤◌, List, ◌++◌, length, Option, Some, None, IfSome, IsUtf8, IsCharBoundary, sym, ap, subst, arith}
use Rattle.first_pass_grammar.proofs.Common.{cases_lt, none-some, Item, TableHead, TableRow, TreeIndex, Forest, line_len-within, spot, Document, FoundRow}
use Rattle.first_pass_grammar.proofs.Common.{around, within_top, FitsBetween, row_block}
use Rattle.first_pass_grammar.proofs.Order.TableEnds.{cells_end}
use Rattle.first_pass_open.specs.Path.{path_of}
use Rattle.first_pass_open.specs.Between.{AddsBetween}
use Rattle.first_pass_tables.specs.Appends.{OpenTable, ReadsRow, ReadsRowLine, AppendsRows, ClosesBetween}
use Rattle.first_pass_tables.proofs.CellsFit.{few-order, few-fits, row_fits}
use Rattle.first_pass_tables.proofs.RowPlaces.{begins_row}
use Rattle.first_pass_tables.proofs.RowsFit.{RowStarts, all_rows_fit}

-- A row that is read is between an offset before it and its end.
pub row_between : {d : Document} {columns start : ℕ} {old new : OpenTable} (answer : Option (ℕ × TreeIndex)) → IsUtf8 d.text
    → IsCharBoundary d.text start → ReadsRow d columns start old new answer → (from : ℕ) → from ≤ start
    → IfSome answer (λ r. AddsBetween d.text from r.0 old.tree new.tree)
row_between None utf8 boundary r from low = tt
row_between {d} {columns} {start} {old} {new} (Some (stop, ix)) utf8 boundary r from low =
    let (kept, tree_is, inserted_is, stop_is, place_is, braces_is) = r.adds in
    let row = row_fits d TableRow columns (spot start old.braces) r.cells (spot r.row_end r.after) utf8 boundary r.are_cells in
    let order = few-order row in
    let block : List (ℕ × Item) = row_block TableRow columns start r.cells r.row_end in
    record {
      items = block;
      tree_is = tree_is;
      fits = subst (λ (n : ℕ). FitsBetween d.text (within_top old.tree) from n block) (sym stop_is)
          (few-fits (within_top old.tree) row low (λ room. omega arith));
    }

-- It ends in the text.
pub row_ends : (d : Document) (columns start : ℕ) (old new : OpenTable) (answer : Option (ℕ × TreeIndex)) → start ≤ length d.text
    → ReadsRow d columns start old new answer → IfSome answer (λ r. r.0 ≤ length d.text)
row_ends d columns start old new None within r = tt
row_ends d columns start old new (Some (stop, ix)) within r = grind (arith, cells_end)

-- If no row is read, the tree is unchanged.
pub row_none : (d : Document) (columns start : ℕ) (old new : OpenTable) (answer : Option (ℕ × TreeIndex))
    → ReadsRow d columns start old new answer → answer ≡ None → new.tree ≡ old.tree
row_none d columns start old new None r is = ap (λ (t : OpenTable). t.tree) r.adds.1
row_none d columns start old new (Some (stop, ix)) r is = absurd (none-some (stop, ix) (sym is))

-- the same for a line
pub line_row_ends : (d : Document) (columns n : ℕ) (old new : OpenTable) (answer : Option (ℕ × TreeIndex)) → IsUtf8 d.text
    → IsCharBoundary d.text n → ReadsRowLine d columns n old new answer → IfSome answer (λ r. r.0 ≤ length d.text)
line_row_ends d columns n old new answer utf8 boundary (inl (none, is, same)) = grind arith
line_row_ends d columns n old new answer utf8 boundary (inr (start, begins, r)) =
    let p = begins_row d.text (around d (path_of d.options old.tree)) n start utf8 boundary begins in
    row_ends d columns start old new answer (subst (λ (k : ℕ). k ≤ length d.text) (sym p.start_is) p.stands.within) r

pub line_row_none : (d : Document) (columns n : ℕ) (old new : OpenTable) (answer : Option (ℕ × TreeIndex))
    → ReadsRowLine d columns n old new answer → answer ≡ None → new.tree ≡ old.tree
line_row_none d columns n old new answer (inl (none, nothing, same)) is = ap (λ (t : OpenTable). t.tree) same
line_row_none d columns n old new answer (inr (start, begins, r)) is = row_none d columns start old new answer r is

-- The rows of a table are between an offset before its header row and the first line that is no row.
pub rows_between : {d : Document} {columns head_start body_start next : ℕ} {old new : Forest Item} → IsUtf8 d.text
    → RowStarts d.text head_start body_start → AppendsRows d columns head_start body_start old new next → (from : ℕ) → from ≤ head_start
    → ClosesBetween d.text from next old new
rows_between {d} {columns} {head_start} {body_start} {next} {old} utf8 starts r from low =
    let head : FoundRow = record { start = head_start; cells = r.cells; row_end = r.head_end; after = r.after } in
    let (rows, later) = all_rows_fit d (path_of d.options old) columns head body_start r.body next utf8 starts r.boundary r.are_cells r.are_rows in
    let within = r.boundary.0 in
    let apart = starts.apart in
    record {
      items = row_block TableHead columns head_start r.cells r.head_end ++ r.body;
      tree_is = r.tree_is;
      fits = few-fits (within_top old) rows low (λ room. elim (cases_lt head_start (length d.text)) [
        | inl inside ↦ (let byte = (line_len-within d.text head_start inside).0 in omega arith)
        | inr past ↦ omega arith
      ]);
    }
