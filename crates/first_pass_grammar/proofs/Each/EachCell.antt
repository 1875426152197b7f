-- A property of each token, and of rows and cells, holds for each node of a table's rows.
use Rattle.std.proofs.Common.{inl, inr, ℕ, List, ◌∷◌, ◌++◌, take, replicate, sym, subst, []}
use Rattle.first_pass_grammar.proofs.Common.{All-append, Item, ItemBody, TableRow, TableCell, at_depth, block_of, Place, Spot, spot, leaves, Names}
use Rattle.first_pass_grammar.proofs.Common.{AreNamed, Document, cell_content, cell_start, cell_text, cell_block, AreCells, inserted, side_by_side}
use Rattle.first_pass_grammar.proofs.Common.{row_cells, row_block, Taken, TableSoFar, AreRows, AreEachNode}
use Rattle.std.specs.List.{AllByRecursion}
use Rattle.std.proofs.lemmas.List.Elements.{All-from_recursion, All-replicate, All-take, recursion_from_All}
use Rattle.first_pass_grammar.specs.declared.kind.Container.{Container}
use Rattle.first_pass_grammar.proofs.Count.RowsWithRoom.{with_row, RowsWithRoom, counted}
use Rattle.first_pass_grammar.proofs.Each.EachToken.{AreEach, HoldsOfTokens, cell_each}
use Rattle.first_pass_grammar.proofs.Names.NamedItems.{HasEntry}

-- each node of these blocks has a property
abbrev pub AreEachBlock : (ItemBody → Type 0) → List (List (ℕ × Item)) → Type 0
AreEachBlock P blocks = AllByRecursion (AreEachNode P) blocks

-- if the index of each node, if it has one, names an entry, then all of them do
pub nodes_named : (names : Names) (nodes : List (ℕ × Item)) → AreEachNode (HasEntry names) nodes → AreNamed names nodes
unfolding AreNamed
nodes_named names [] h = tt
nodes_named names (x ∷ nodes) h = (h.0, nodes_named names nodes h.1)

module _ (P : ItemBody → Type 0) where
  -- more nodes; nodes at another depth; the nodes of a chain; and those of a block
  pub both_nodes : (xs ys : List (ℕ × Item)) → AreEachNode P xs → AreEachNode P ys → AreEachNode P (xs ++ ys)
  both_nodes [] ys h k = k
  both_nodes (x ∷ xs) ys h k = (h.0, both_nodes xs ys h.1 k)

  pub deeper_nodes : (depth : ℕ) (nodes : List (ℕ × Item)) → AreEachNode P nodes → AreEachNode P (at_depth depth nodes)
  deeper_nodes depth [] h = tt
  deeper_nodes depth (x ∷ nodes) h = (h.0, deeper_nodes depth nodes h.1)

  pub leaves_nodes : (chain : List Item) → AreEach P chain → AreEachNode P (leaves chain)
  leaves_nodes [] h = tt
  leaves_nodes (x ∷ chain) h = (h.0, leaves_nodes chain h.1)

  pub block_nodes : (x : Item) (kids : List (ℕ × Item)) → P x.body → AreEachNode P kids → AreEachNode P (block_of x kids)
  block_nodes x kids h k = (h, deeper_nodes 1 kids k)

  -- blocks side by side
  side_nodes : (blocks : List (List (ℕ × Item))) → AreEachBlock P blocks → AreEachNode P (side_by_side blocks)
  side_nodes [] h = tt
  side_nodes (block ∷ blocks) h = both_nodes block (side_by_side blocks) h.0 (side_nodes blocks h.1)

  -- a row
  pub row_nodes : (body : ItemBody) (columns start : ℕ) (cells : List (List (ℕ × Item))) («end» : ℕ) → P body → P TableCell → AreEachBlock P cells
      → AreEachNode P (row_block body columns start cells «end»)
  row_nodes body columns start cells end own cell h =
      let One : List (ℕ × Item) → Type 0 = AreEachNode P in
      let empty : List (ℕ × Item) = cell_block end end [] in
      block_nodes (record { start = start; «end» = end; body = body }) (row_cells columns cells end) own
      (side_nodes (take columns cells ++ replicate (inserted columns cells) empty) (recursion_from_All One _
      (All-append One (take columns cells) (replicate (inserted columns cells) empty) (All-take One columns cells (All-from_recursion One cells h))
      (All-replicate One (inserted columns cells) empty (cell, tt)))))

module _ (P : ItemBody → Type 0) (d : Document) (holds : HoldsOfTokens d.names.texts P) (cell_holds : P TableCell) where
  -- the cells of a row
  pub cells_nodes : (p : Spot) (cells : List (List (ℕ × Item))) (to : Spot) → AreCells d p cells to → AreEachBlock P cells
  unfolding AreCells
  cells_nodes p [] to h = tt
  cells_nodes p (cell ∷ cells) to (on, tokens, stop, is, e, more) =
      let each = cell_each d.names.texts P holds (cell_content d (spot (cell_text d.text p.at) p.braces)) tokens stop.at is in (
        subst (AreEachNode P) (sym e)
            (block_nodes P (record { start = cell_start d.text p.at; «end» = stop.at; body = TableCell }) (leaves tokens) cell_holds
            (leaves_nodes P tokens each)),
        cells_nodes stop cells to more,
      )

  -- the rows of a table body
  counted_nodes : (path : List Container) (table : TableSoFar) (lines : List Place) (t : Taken) → P TableRow → RowsWithRoom d path table lines t
      → AreEachNode P t.items
  unfolding RowsWithRoom
  counted_nodes path table [] t own e = subst (λ (z : Taken). AreEachNode P z.items) (sym e) tt
  counted_nodes path table (line ∷ lines) t own (inl (none, e)) = subst (λ (z : Taken). AreEachNode P z.items) (sym e) tt
  counted_nodes path table (line ∷ lines) t own (inr (row, has, inl (stops, e))) = subst (λ (z : Taken). AreEachNode P z.items) (sym e) tt
  counted_nodes path table (line ∷ lines) t own (inr (row, has, inr (is, more, rest, e))) =
      subst (λ (z : Taken). AreEachNode P z.items) (sym e)
      (both_nodes P (row_block TableRow table.columns row.start row.cells row.row_end) more.items
      (row_nodes P TableRow table.columns row.start row.cells row.row_end own cell_holds
      (cells_nodes (spot row.start table.braces) row.cells (spot row.row_end row.after) has.are_cells))
      (counted_nodes path (with_row table row) lines more own rest))

  pub rows_nodes : (path : List Container) (table : TableSoFar) (lines : List Place) (t : Taken) → P TableRow → AreRows d path table lines t
      → AreEachNode P t.items
  rows_nodes path table lines t own h = counted_nodes path table lines t own (counted d path table lines t h)
