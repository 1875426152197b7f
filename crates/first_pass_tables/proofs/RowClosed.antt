-- A row is opened, its cells and the inserted ones are added, and it is closed, or dropped again.
use Rattle.std.proofs.Common.{◌≡◌, ℕ, ◌+◌, ◌-◌, true, zero, suc, List, [], ◌∷◌, ◌++◌, length, take, replicate, Option, Some, None, is_some, IsSome}
use Rattle.std.proofs.Common.{MatchOption, slice_get, refl, sym, ap, subst, ◌∙◌, append_assoc, option_map}
use Rattle.first_pass_grammar.proofs.Common.{Item, ItemBody, TableRow, TreeIndex, Forest, at_depth, added, popped, chained, leaves, chained-spine}
use Rattle.first_pass_grammar.proofs.Common.{chained-nodes, Spot, spot, Document, cell_block, AreCells, inserted, side_by_side, row_cells, row_block}
use Rattle.first_pass_grammar.proofs.Common.{FoundRow, most_inserted}
use Rattle.first_pass_tree.proofs.Blocks.{block-built}
use Rattle.first_pass_tree.proofs.Callers.{more-added}
use Rattle.first_pass_open.specs.OpenBlock.{opened_block, begun_item, closed_by}
use Rattle.first_pass_tables.specs.Appends.{AppendsCells, empty_cell, keeps_row, OpenTable, AddsRow, ReadsRow}
use Rattle.first_pass_tables.proofs.RowCells.{side_more}
use Rattle.first_pass_tables.proofs.RowDrops.{HasMore}

-- the place of the row
abbrev pub row_place : Forest Item → TreeIndex
row_place old = record { 0 = length old.nodes }

-- empty cells are blocks of their own
empty_blocks : (n «end» : ℕ) → leaves (replicate n (empty_cell «end»)) ≡ side_by_side (replicate n (cell_block «end» «end» []))
empty_blocks zero stop = refl
empty_blocks (suc n) stop = ap (λ (items : List (ℕ × Item)). (0, empty_cell stop) ∷ items) (empty_blocks n stop)

-- A row is open, with the cells that are kept.
pub record OpenRow (d : Document) (columns : ℕ) (start : Spot) (body : ItemBody) (old : Forest Item) : Type 0 where
  pub opened : Forest Item
  pub read : Forest Item
  pub stop : Spot
  pub count : ℕ
  pub opened_is : opened ≡ opened_block old start.at body
  pub adds : AppendsCells d columns start opened read (stop, count)

module _ {d : Document} {columns : ℕ} {start : Spot} {body : ItemBody} {old : Forest Item} (o : OpenRow d columns start body old) (missing : ℕ)
    (full : Forest Item) (missing_is : missing ≡ columns - o.count) (full_is : full ≡ chained o.read (replicate missing (empty_cell o.stop.at))) where
  spine_is : full.spine ≡ o.opened.spine
  spine_is = ap (λ (f : Forest Item). f.spine) full_is ∙ chained-spine o.read (replicate missing (empty_cell o.stop.at)) ∙ o.adds.spine

  pub spine_of_row : full.spine ≡ row_place old ∷ old.spine
  spine_of_row = spine_is ∙ ap (λ (f : Forest Item). f.spine) o.opened_is

  pub row_is_open : IsSome (slice_get full.spine 0)
  row_is_open = subst (λ (s : List TreeIndex). IsSome (slice_get s 0)) (sym spine_of_row) refl

  pub missing_are : missing ≡ inserted columns o.adds.cells
  missing_are = missing_is ∙ ap (λ (n : ℕ). columns - n) o.adds.count

  nodes_are : full.nodes ≡ o.opened.nodes ++ at_depth (length o.opened.spine + 1) (row_cells columns o.adds.cells o.stop.at)
  nodes_are =
      let first = take columns o.adds.cells in
      let empty = replicate missing (empty_cell o.stop.at) in
      let blocks : ℕ → List (List (ℕ × Item)) = λ (n : ℕ). replicate n (cell_block o.stop.at o.stop.at []) in
      let cells : side_by_side first ++ leaves empty ≡ row_cells columns o.adds.cells o.stop.at =
      ap (λ (items : List (ℕ × Item)). side_by_side first ++ items) (empty_blocks missing o.stop.at) ∙ sym (side_more first (blocks missing))
      ∙ ap (λ (n : ℕ). side_by_side (first ++ blocks n)) missing_are in
      ap (λ (f : Forest Item). f.nodes) full_is ∙ chained-nodes o.read empty
      ∙ more-added o.opened o.read (added o.read (leaves empty)) (side_by_side first) (leaves empty) o.adds.nodes o.adds.spine refl
      ∙ ap (λ (items : List (ℕ × Item)). o.opened.nodes ++ at_depth (length o.opened.spine + 1) items) cells

  -- the row is closed at its end
  pub row_closed : (new : Forest Item) → new ≡ closed_by full o.stop.at full.spine → new ≡ added old (row_block body columns start.at o.adds.cells o.stop.at)
  row_closed new new_is =
      let place = row_place old in
      let cells = row_cells columns o.adds.cells o.stop.at in
      new_is ∙ ap (closed_by full o.stop.at) spine_of_row
      ∙ block-built old (begun_item start.at body) (λ (y : Item). record y { «end» = o.stop.at }) cells place (popped full place old.spine) (record {
        opened = o.opened;
        filled = full;
        at = refl;
        opened_is = o.opened_is;
        nodes = nodes_are;
        spine = spine_is;
        around = spine_of_row;
        closed_is = refl;
      })

-- the row is closed, and about to be dropped
pub row_after : {d : Document} {columns : ℕ} {start : Spot} {body : ItemBody} {old : Forest Item} (o : OpenRow d columns start body old) (back : Forest Item)
    (r : Option TreeIndex)
    → MatchOption r ((o.read.spine ≡ []) × (back ≡ o.read)) (λ ix. (o.read.spine ≡ ix ∷ back.spine) × (back ≡ popped o.read ix back.spine)) → HasMore old back
row_after o back None h =
    let row_open = o.adds.spine ∙ ap (λ (f : Forest Item). f.spine) o.opened_is in
    let none = h.0 in
    cc
row_after {columns = columns} {start} {body} {old} o back (Some ix) h =
    let row_open = o.adds.spine ∙ ap (λ (f : Forest Item). f.spine) o.opened_is in
    let popped_is = h.0 in
    let x = begun_item start.at body in
    let rest = at_depth (length o.opened.spine + 1) (side_by_side (take columns o.adds.cells)) in
    record {
      x = x;
      rest = rest;
      nodes = ap (λ (f : Forest Item). f.nodes) h.1 ∙ o.adds.nodes ∙ ap (λ (f : Forest Item). f.nodes ++ rest) o.opened_is
          ∙ append_assoc old.nodes ((length old.spine + 1, x) ∷ []) rest;
      spine = cc;
    }

-- the row is read
pub row_read : {d : Document} {columns : ℕ} (row : FoundRow) {old new : OpenTable} {answer : Option (ℕ × TreeIndex)}
    → AreCells d (spot row.start old.braces) row.cells (spot row.row_end row.after)
    → keeps_row (is_some old.tree.current) columns (most_inserted - old.inserted_so_far) row.cells ≡ true
    → new.tree ≡ added old.tree (row_block TableRow columns row.start row.cells row.row_end)
    → new.inserted_so_far ≡ old.inserted_so_far + inserted columns row.cells → new.braces ≡ row.after
    → answer ≡ option_map (λ (ix : TreeIndex). (row.row_end, ix)) new.tree.current → ReadsRow d columns row.start old new answer
row_read {columns = columns} row {old} {new} are kept new_is after_is braces_is answer_is =
    let is = answer_is ∙ ap (λ (f : Forest Item). option_map (λ (ix : TreeIndex). (row.row_end, ix)) f.current) new_is in
    record {
      cells = row.cells;
      row_end = row.row_end;
      after = row.after;
      are_cells = are;
      adds = subst (AddsRow columns row old new) (sym is) (kept, new_is, after_is, refl, refl, braces_is);
    }
