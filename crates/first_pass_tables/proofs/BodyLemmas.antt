-- The rows of a table's body, one after the other.
use Rattle.std.proofs.Common.{◌≡◌, inl, inr, ℕ, ◌+◌, ◌-◌, ◌<◌, Bool, true, false, List, [], ◌∷◌, ◌++◌, append_assoc, append-nil, length, drop, Option, Some}
use Rattle.std.proofs.Common.{None, is_some, IsUtf8, IsCharBoundary, refl, sym, ap, subst, ◌∙◌, arith}
use Rattle.first_pass_grammar.proofs.Common.{cases_lt, none-some, Item, TableHead, TableRow, TreeIndex, Forest, added, at_depth, with_end_at, line_len, Place}
use Rattle.first_pass_grammar.proofs.Common.{line_place, lines_at-line, lines_at-end, line_len-within, line_end_boundary, MathBraces, no_braces, spot, Names}
use Rattle.first_pass_grammar.proofs.Common.{Extends, Document, document, around, lines_from, inserted, row_block, row_text, Taken, taking, FoundRow}
use Rattle.first_pass_grammar.proofs.Common.{HasCells, TableSoFar, AreRows, most_inserted, Options}
use Rattle.first_pass_tree.proofs.Callers.{more-added}
use Rattle.first_pass_grammar.specs.declared.kind.Container.{Container}
use Rattle.first_pass_grammar.proofs.Count.RowsWithRoom.{is_row, with_row, RowsWithRoom, counted, are_rows}
use Rattle.first_pass_grammar.proofs.Names.MoreNames.{extends_both}
use Rattle.first_pass_grammar.proofs.Names.TextsMore.{cells_more}
use Rattle.first_pass_open.specs.OpenBlock.{IsJustPushed, closed_by}
use Rattle.first_pass_open.specs.Path.{path_of}
use Rattle.first_pass_open.proofs.PathLemmas.{AreIn, path_in-append}
use Rattle.first_pass_tables.specs.Appends.{with_below, AddsHead, keeps_row, OpenTable, so_far, ReadsRowLine, AppendsRows}
use Rattle.first_pass_tables.specs.RowsRead.{AppendsBody}
use Rattle.first_pass_tables.proofs.BodySoFar.{BodySoFar}
use Rattle.first_pass_tables.proofs.RowPlaces.{row_line, row_within}

-- more nodes after an open node's own open and close nothing
pub same_path : (options : Options) (f g : Forest Item) (more : List (ℕ × Item))
    → g.nodes ≡ f.nodes ++ more → g.spine ≡ f.spine → AreIn (length f.nodes) f.spine → path_of options g ≡ path_of options f
same_path options f g more nodes spine there = grind (arith, path_in-append)

-- a row that is kept after others is a row
is_row_of : {A : Type 0} (o : Option A) (u : Bool) (table : TableSoFar) (cells : List (List (ℕ × Item))) → (o ≡ None → ⊥)
    → keeps_row (is_some o) table.columns table.room cells ≡ u → is_row table cells ≡ u
is_row_of None u table cells some h = absurd (some refl)
is_row_of (Some x) u table cells some h = h

-- one more row, before the rows after it
row_more : (d : Document) (path : List Container) (table : TableSoFar) (at : ℕ) (row : FoundRow) (more : Taken) → at < length d.text
    → row.row_end ≡ at + line_len (drop at d.text) → HasCells d path (line_place at (drop at d.text)) table.braces row → is_row table row.cells ≡ true
    → AreRows d path (with_row table row) (lines_from d.text row.row_end) more
    → AreRows d path table (lines_from d.text at) (taking (row_block TableRow table.columns row.start row.cells row.row_end ++ more.items) more.left)
unfolding RowsWithRoom
row_more d path table at row more within next_is has is rest = grind (arith, counted, are_rows, lines_at-line)

-- no row: no line is left, or the next one is none
left_by : (d : Document) (path : List Container) (table : TableSoFar) (at : ℕ) → (let lines : List Place = line_place at (drop at d.text)
    ∷ lines_from d.text (at + line_len (drop at d.text)) in RowsWithRoom d path table lines (taking [] lines))
    → AreRows d path table (lines_from d.text at) (taking [] (lines_from d.text at))
unfolding RowsWithRoom
left_by d path table at h = grind (arith, cases_lt, lines_at-line, are_rows, lines_at-end)

-- no row is read yet
pub body_none : {d : Document} {columns start : ℕ} {old : OpenTable} → (old.tree.current ≡ None → ⊥) → IsCharBoundary d.text start
    → BodySoFar d columns start old old start
body_none {old = old} some boundary = record {
  body = [];
  nodes = sym (append-nil old.tree.nodes);
  spine = refl;
  some = some;
  later = omega arith;
  boundary = boundary;
  continues = λ later e t rows. rows;
}

-- the rows are read under names that extend those of the first rows
module _ (d : Document) {before : Names} {columns start : ℕ} {old now : OpenTable} {at : ℕ} (utf8 : IsUtf8 d.text)
    (there : AreIn (length old.tree.nodes) old.tree.spine) (grown : Extends d.names before)
    (s : BodySoFar (document d.text d.options before) columns start old now at) where
  path_is : path_of d.options now.tree ≡ path_of d.options old.tree
  path_is = same_path d.options old.tree now.tree (at_depth (length old.tree.spine + 1) s.body) s.nodes s.spine there

  begins : (o : Option ℕ) → row_text (around d (path_of d.options now.tree)) (line_place at (drop at d.text)) ≡ o
      → row_text (around d (path_of d.options old.tree)) (line_place at (drop at d.text)) ≡ o
  begins o h = rw path_is at h

  -- after a row
  pub body_more : {new : OpenTable} (next : ℕ) (ix : TreeIndex) → ReadsRowLine d columns at now new (Some (next, ix))
      → BodySoFar d columns start old new next × (at < next)
  body_more next ix (inl (none, answer, same)) = absurd (none-some (next, ix) (sym answer))
  body_more {new} next ix (inr (begin, h, r)) =
      let path = path_of d.options old.tree in
      let (kept, new_is, after, stop_is, place_is, braces_is) = r.adds in
      let here = begins (Some begin) h in
      let within : at < length d.text = row_within d.text (around d path) at begin here in
      let line : r.row_end ≡ at + line_len (drop at d.text) =
      row_line d path at (spot begin now.braces) r.cells (spot r.row_end r.after) utf8 s.boundary here r.are_cells in
      let block : List (ℕ × Item) = row_block TableRow columns begin r.cells r.row_end in
      let row : FoundRow = record { start = begin; cells = r.cells; row_end = r.row_end; after = r.after } in
      let is = is_row_of now.tree.current true (so_far columns now) r.cells s.some kept in
      let left : most_inserted - new.inserted_so_far ≡ most_inserted - now.inserted_so_far - inserted columns r.cells = omega (arith, after) in
      let table_is : so_far columns new ≡ with_row (so_far columns now) row = cc in
      let size = (line_len-within d.text at within).0 in
      let low = s.later in (
        record {
          body = s.body ++ block;
          nodes = more-added old.tree now.tree new.tree s.body block s.nodes s.spine new_is;
          spine = ap (λ (f : Forest Item). f.spine) new_is ∙ s.spine;
          some = λ e. absurd (let z : Some (record { 0 = length now.tree.nodes }) ≡ None = sym (ap (λ (f : Forest Item). f.current) new_is) ∙ e in cc);
          later = omega arith;
          boundary = subst (IsCharBoundary d.text) (sym (stop_is ∙ line)) (line_end_boundary d.text at utf8 s.boundary within);
          continues = λ later e t rows.
              let all : Document = document d.text d.options later in
              let still : HasCells all path (line_place at (drop at d.text)) now.braces row = record {
                begins = here;
                are_cells = cells_more d.text d.options d.names later (spot begin now.braces) r.cells (spot r.row_end r.after) e r.are_cells;
              } in
              subst (λ items. AreRows all path (so_far columns old) (lines_from d.text start) (taking items t.left)) (sym (append_assoc s.body block t.items))
              (s.continues later (extends_both later d.names before e grown) (taking (block ++ t.items) t.left)
              (row_more all path (so_far columns now) at row t within line still is
              (subst (λ table. AreRows all path table (lines_from d.text r.row_end) t) table_is
              (subst (λ k. AreRows all path (so_far columns new) (lines_from d.text k) t) stop_is rows))));
        },
        omega arith,
      )

  -- before a line that is no row
  over_by : {new : Forest Item} → new ≡ now.tree → AreRows d (path_of d.options old.tree) (so_far columns now) (lines_from d.text at)
      (taking [] (lines_from d.text at)) → AppendsBody d columns start old new at
  over_by same rows = record {
    body = s.body;
    are_rows = rw (append-nil s.body) at (s.continues d.names grown (taking [] (lines_from d.text at)) rows);
    nodes = ap (λ (f : Forest Item). f.nodes) same ∙ s.nodes;
    spine = ap (λ (f : Forest Item). f.spine) same ∙ s.spine;
    later = s.later;
    boundary = s.boundary;
  }

  pub body_over : (new : OpenTable) → ReadsRowLine d columns at now new None → AppendsBody d columns start old new.tree at
  unfolding RowsWithRoom
  body_over new (inl (none, answer, same)) =
      over_by (ap (λ (t : OpenTable). t.tree) same) (left_by d (path_of d.options old.tree) (so_far columns now) at (inl (begins None none, refl)))
  body_over new (inr (begin, h, r)) =
      let is = is_row_of now.tree.current false (so_far columns now) r.cells s.some r.adds.0 in
      over_by (ap (λ (t : OpenTable). t.tree) r.adds.1) (left_by d (path_of d.options old.tree) (so_far columns now) at (inr (
        record { start = begin; cells = r.cells; row_end = r.row_end; after = r.after },
        record { begins = begins (Some begin) h; are_cells = r.are_cells },
        inl (is, refl),
      )))

-- The table is closed after its rows.
closed_as : (f g : Forest Item) (e : ℕ) (ix : TreeIndex) (rest s : List TreeIndex) → f.nodes ≡ g.nodes → s ≡ ix ∷ rest → closed_by f e s ≡ closed_by g e s
closed_as f g e ix rest [] nodes is = cc
closed_as f g e ix rest (i ∷ is) nodes same = ap (λ (ns : List (ℕ × Item)). with_end_at (record { nodes = ns; spine = is; current = Some i }) i e) nodes

-- The header row of a table is added, and then the rows of its body.
pub record TableRead (d : Document) (columns head_start body_start : ℕ) (old : Forest Item) : Type 0 where
  pub before : Names
  pub headed : OpenTable
  pub bodied : Forest Item
  pub next : ℕ
  pub grown : Extends d.names before
  pub head : AddsHead (document d.text d.options before) columns (spot head_start no_braces) old headed
  pub body : AppendsBody d columns body_start headed bodied next

pub rows_closed : {d : Document} {columns head_start body_start : ℕ} {old : Forest Item} (new : Forest Item)
    (r : TableRead d columns head_start body_start old) → (ix : TreeIndex) × IsJustPushed old ix → AreIn (length old.nodes) old.spine
    → new ≡ closed_by r.bodied r.next r.bodied.spine → AppendsRows d columns head_start body_start old new r.next
rows_closed {d} {columns} {head_start} {body_start} {old} new r (ix, pushed) there new_is =
    let next : ℕ = r.next in
    let headed : Forest Item = r.headed.tree in
    let after : MathBraces = r.headed.braces in
    let head = r.head in
    let body = r.body in
    let row : List (ℕ × Item) = row_block TableHead columns head_start head.cells head.row_end in
    let nodes : headed.nodes ≡ old.nodes ++ at_depth (length old.spine + 1) row = ap (λ (f : Forest Item). f.nodes) head.tree_is in
    let spine : headed.spine ≡ old.spine = ap (λ (f : Forest Item). f.spine) head.tree_is in
    let path : path_of d.options headed ≡ path_of d.options old = same_path d.options old headed (at_depth (length old.spine + 1) row) nodes spine there in
    let all = body.nodes ∙ more-added old headed (added headed body.body) row body.body nodes spine refl in
    record {
      cells = head.cells;
      head_end = head.row_end;
      after = after;
      are_cells = cells_more d.text d.options r.before d.names (spot head_start no_braces) head.cells (spot head.row_end after) r.grown head.are_cells;
      body = body.body;
      are_rows = rw (path, head.missing_is) at body.are_rows;
      tree_is = new_is ∙ ap (closed_by r.bodied next) (body.spine ∙ spine)
          ∙ closed_as r.bodied (with_below old (row ++ body.body)) next ix pushed.rest old.spine all pushed.innermost;
      later = body.later;
      boundary = body.boundary;
    }
