-- The rows of a table keep the tree in order as they are added, with at most four nodes for each byte.
use Rattle.std.proofs.Common.{◌≡◌, inl, inr, ℕ, ◌+◌, ◌<◌, ◌≤◌, List, ◌∷◌, ◌++◌, length, Option, Some, None, IfSome, IsUtf8, IsCharBoundary, refl, sym, ap}
use Rattle.std.proofs.Common.{subst, ◌∙◌, arith}
use Rattle.first_pass_grammar.proofs.Common.{none-some, Item, TreeIndex, Forest, added, at_depth, body_at, counted_nodes, IsOrderedTo, GrowsBy, Document}
use Rattle.first_pass_grammar.proofs.Common.{around, spot}
use Rattle.first_pass.proofs.Common.{Table, MayAddAt, ordered_added, ordered_closed, ordered_tree, is_item, top_of, AreNested, added_outside, top_front}
use Rattle.first_pass.proofs.Common.{after_row, IsTableOpen, ClosesBetween, IsOpenNode, ReadsRow, AddsTexts, FirstPass, ReadsRowFrom, KeepsEntries, with_tree}
use Rattle.first_pass_blocks.proofs.Common.{own_added, IsJustPushed, closed_by, AddsBetween, with_below, names_of, block_count, ordered_same, ordered_later}
use Rattle.first_pass_blocks.proofs.Common.{ordered_none, OpenTable, PassState, ReadsRowLine, path_of}
use Rattle.first_pass_lists.specs.Closing.{top_body}
use Rattle.first_pass_grammar.proofs.Count.CountedNodes.{own_ended}
use Rattle.first_pass_tables.proofs.CellsFit.{row_boundary}
use Rattle.first_pass_tables.proofs.RowPlaces.{begins_row}
use Rattle.first_pass.proofs.Adding.{IsOutside, may_add_by, no_empty_item, outside_of, table_closed}
use Rattle.first_pass.specs.Views.{allocs_of, source_text, state_of, tree_of}

-- a row is added, or none
row_ordered : (text : List ℕ) (old new : Forest Item) (at ix : ℕ) (row : Option (ℕ × TreeIndex)) → at ≤ ix → ix ≤ length text → (row ≡ None → new ≡ old)
    → IfSome row (λ r. r.0 ≤ length text) → IfSome row (λ r. AddsBetween text at r.0 old new) → IsOrderedTo text old at
    → IsOrderedTo text new (after_row row ix)
row_ordered text old new at ix None low within same ends adds o =
    rw (same refl) (ordered_later text old at ix low within o)
row_ordered text old new at ix (Some (stop, place)) low within same ends adds o =
    rw adds.tree_is (ordered_added text old at stop adds.items adds.fits ends o)

row_count : (text : List ℕ) (old new : Forest Item) (from ix : ℕ) (row : Option (ℕ × TreeIndex)) → (row ≡ None → new ≡ old)
    → IfSome row (λ r. AddsBetween text from r.0 old new) → from < after_row row ix → GrowsBy from (after_row row ix) old.nodes new.nodes
row_count text old new from ix None same adds apart =
    let is = ap (λ (f : Forest Item). counted_nodes f.nodes) (same refl) in
    omega arith
row_count text old new from ix (Some (stop, place)) same adds apart = block_count text from stop old new adds apart

row_added : (text : List ℕ) (old new : Forest Item) (ix : ℕ) (row : Option (ℕ × TreeIndex)) → (row ≡ None → new ≡ old)
    → IfSome row (λ r. AddsBetween text ix r.0 old new) → IsOutside old → IsOutside new × (top_body new ≡ top_body old)
row_added text old new ix None same adds h = subst (λ (f : Forest Item). IsOutside f × (top_body f ≡ top_body old)) (sym (same refl)) (h, refl)
row_added text old new ix (Some row) same adds h =
    subst (λ (f : Forest Item). IsOutside f × (top_body f ≡ top_body old)) (sym adds.tree_is)
    (added_outside old adds.items h.0 h.1, top_front old.nodes _ old.spine h.0)

row_open : (text : List ℕ) (old new : Forest Item) (ix : ℕ) (row : Option (ℕ × TreeIndex)) → (row ≡ None → new ≡ old)
    → IfSome row (λ r. AddsBetween text ix r.0 old new) → IsOpenNode old → IsOpenNode new
row_open text old new ix None same adds node = subst IsOpenNode (sym (same refl)) node
row_open text old new ix (Some row) same adds node =
    subst IsOpenNode (sym adds.tree_is)
    (record { place = node.place; around = node.around; innermost = node.innermost; childless = λ none. absurd (none-some _ (sym none)) })

-- a row ends at a character boundary
pub row_stops : (d : Document) (columns start : ℕ) (old new : OpenTable) (answer : Option (ℕ × TreeIndex)) → IsUtf8 d.text → IsCharBoundary d.text start
    → ReadsRow d columns start old new answer → IfSome answer (λ r. IsCharBoundary d.text r.0)
row_stops d columns start old new None utf8 boundary r = tt
row_stops d columns start old new (Some (stop, ix)) utf8 boundary r =
    subst (IsCharBoundary d.text) (sym r.adds.3)
    (row_boundary d (spot start old.braces) r.cells (spot r.row_end r.after) utf8 boundary r.are_cells)

pub line_row_stops : (d : Document) (columns n : ℕ) (old new : OpenTable) (answer : Option (ℕ × TreeIndex)) → IsUtf8 d.text → IsCharBoundary d.text n
    → ReadsRowLine d columns n old new answer → IfSome answer (λ r. IsCharBoundary d.text r.0)
line_row_stops d columns n old new answer utf8 boundary (inl (none, is, same)) = subst (λ o. IfSome o (λ r. IsCharBoundary d.text r.0)) (sym is) tt
line_row_stops d columns n old new answer utf8 boundary (inr (start, begins, r)) =
    let p = begins_row d.text (around d (path_of d.options old.tree)) n start utf8 boundary begins in
    row_stops d columns start old new answer utf8 (subst (IsCharBoundary d.text) (sym p.start_is) p.stands.boundary) r

row_boundary_by : (text : List ℕ) (ix : ℕ) (row : Option (ℕ × TreeIndex)) → IsCharBoundary text ix → IfSome row (λ r. IsCharBoundary text r.0)
    → IsCharBoundary text (after_row row ix)
row_boundary_by text ix None begins ends = begins
row_boundary_by text ix (Some row) begins ends = ends

-- a row is read if it keeps the entries and the state, and is between two offsets
pub row_read : (old new : FirstPass) (ix : ℕ) (row : Option (ℕ × TreeIndex)) → KeepsEntries old new
    → AddsTexts (names_of (allocs_of new)) (names_of (allocs_of old)) → state_of new ≡ with_tree (state_of old) (tree_of new)
    → ix ≤ length (source_text old) → (row ≡ None → tree_of new ≡ tree_of old) → IfSome row (λ r. r.0 ≤ length (source_text old))
    → (IsCharBoundary (source_text old) ix → IfSome row (λ r. IsCharBoundary (source_text old) r.0))
    → (IsCharBoundary (source_text old) ix → (from : ℕ) → from ≤ ix → IfSome row (λ r. AddsBetween (source_text old) from r.0 (tree_of old) (tree_of new)))
    → ReadsRowFrom old new ix (after_row row ix)
row_read old new ix row kept texts state within same ends stops fits = record {
  kept = kept;
  texts = texts;
  state = state;
  boundary = λ begins. row_boundary_by (source_text old) ix row begins (stops begins);
  order = λ begins at low o. row_ordered (source_text old) (tree_of old) (tree_of new) at ix row low within same ends (fits begins at low) o;
  may_add = λ table begins at low h.
      let none = no_empty_item (source_text old) (state_of old) at h.read.0 (ap is_item table.1) in
      let o = row_ordered (source_text old) (tree_of old) (tree_of new) at ix row low within same ends (fits begins at low)
      (ordered_tree (source_text old) (state_of old) at none h.read.0) in
      let here : ix ≤ ix = omega arith in
      let added = row_added (source_text old) (tree_of old) (tree_of new) ix row same (fits begins ix here) (outside_of h) in (
        may_add_by (source_text old) (state_of new) (tree_of new) (after_row row ix) refl added.0
            (ordered_none (source_text old) (state_of new) (after_row row ix) (ap (λ (r : PassState). r.begin_list_item) state ∙ none) o.within o),
        (table.0, added.1 ∙ table.1),
      );
  open_node = λ begins node.
      let here : ix ≤ ix = omega arith in
      row_open (source_text old) (tree_of old) (tree_of new) ix row same (fits begins ix here) node;
  node_bound = λ begins from low apart. row_count (source_text old) (tree_of old) (tree_of new) from ix row same (fits begins from low) apart;
}

-- the tree with nodes added to the innermost open node, which is then closed
closed_is : (text : List ℕ) (old new : Forest Item) (from next : ℕ) (ix : TreeIndex) (pushed : IsJustPushed old ix) (c : ClosesBetween text from next old new)
    → new ≡ closed_by (with_below old c.items) next (ix ∷ pushed.rest)
closed_is text old new from next ix pushed c = c.tree_is ∙ ap (closed_by (with_below old c.items) next) pushed.innermost

-- the rows of a table are added, and the table is closed after them
pub rows_ordered : {text : List ℕ} {old new : Forest Item} {at next : ℕ} {ix : TreeIndex} → IsJustPushed old ix → IsCharBoundary text next
    → ClosesBetween text at next old new → IsOrderedTo text old at → IsOrderedTo text new next
rows_ordered {text = text} {old = old} {new = new} {at = at} {next = next} {ix = ix} pushed ends c o =
    let f : Forest Item = with_below old c.items in
    let here : next ≤ next = omega arith in
    let rows = ordered_same text (added old c.items) f next refl refl (ordered_added text old at next c.items c.fits ends.0 o) in
    rw (closed_is text old new at next ix pushed c) (ordered_closed text f next next ix pushed.rest pushed.innermost here ends.0 ends rows)

pub rows_count : {text : List ℕ} {old new : Forest Item} {from next : ℕ} {ix : TreeIndex} → IsJustPushed old ix → ClosesBetween text from next old new
    → from < next → GrowsBy from next old.nodes new.nodes
rows_count {text = text} {old = old} {new = new} {from = from} {next = next} {ix = ix} pushed c apart =
    let node_bound = c.fits.3 apart in
    let tree = ap (λ (f : Forest Item). counted_nodes f.nodes) (closed_is text old new from next ix pushed c) in
    let same = own_ended (old.nodes ++ at_depth (length old.spine + 1) c.items) ix.0 next in
    let more = own_added old.nodes c.items (length old.spine + 1) in
    omega arith

-- the open nodes can still be closed
pub rows_may_add : {text : List ℕ} {old new : PassState} {at next : ℕ} {ix : TreeIndex} → IsJustPushed old.tree ix → IsCharBoundary text next
    → ClosesBetween text at next old.tree new.tree → new.begin_list_item ≡ old.begin_list_item → IsTableOpen old.tree → MayAddAt text old at
    → MayAddAt text new next
rows_may_add {text = text} {old = old} {new = new} {at = at} {next = next} {ix = ix} pushed ends c same table h =
    let f : Forest Item = old.tree in
    let is = pushed.innermost in
    let none = no_empty_item text old at h.read.0 (ap is_item table.1) in
    let body : body_at f.nodes ix.0 ≡ Some (Table table.0) = ap (λ (s : List TreeIndex). top_of f.nodes s) (sym is) ∙ table.1 in
    let nested : AreNested f.nodes (ix ∷ pushed.rest) = subst (AreNested f.nodes) is h.read.1.nested in
    may_add_by text new (closed_by (with_below f c.items) next (ix ∷ pushed.rest)) next (closed_is text f new.tree at next ix pushed c)
    (table_closed f.nodes (at_depth (length f.spine + 1) c.items) ix pushed.rest next table.0 body nested)
    (ordered_none text new next (same ∙ none) ends.0 (rows_ordered pushed ends c (ordered_tree text old at none h.read.0)))
