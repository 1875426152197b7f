-- The nodes after the last child of the innermost open node are dropped; and a row with the cells that are kept.
use Rattle.std.proofs.Common.{◌≡◌, ℕ, ◌+◌, ◌<◌, List, [], ◌∷◌, ◌++◌, length, take, Option, Some, None, IfSome, slice_get, refl, sym, ap, inl, inr, subst, ◌∙◌}
use Rattle.std.proofs.Common.{arith, length-append, append-nil, get_or}
use Rattle.first_pass_grammar.proofs.Common.{cases_Bool, cases_lt, length-map, take-append_seam, Item, TableCell, TreeIndex, Forest, IsForest, IsLastAt}
use Rattle.first_pass_grammar.proofs.Common.{IsChild, depths, at_depth, last-order, leaves, MathBraces, Spot, spot, Document, cell_start, AreCells}
use Rattle.first_pass_grammar.proofs.Common.{side_by_side, map-append}
use Rattle.first_pass_tree.proofs.Depths.{open-last, before-end, at-end}
use Rattle.first_pass_tree.proofs.Callers.{child-kept}
use Rattle.first_pass_open.specs.OpenBlock.{IsJustPushed}
use Rattle.first_pass_tables.specs.declared.row.CellsRead.{CellsRead}
use Rattle.first_pass_tables.specs.Appends.{IsOpenNode, without_after, without_children, AppendsCells}
use Rattle.first_pass_tables.specs.Reading.{AreAppended, AreAllAppended, AppendsSome}
use Rattle.std.proofs.lemmas.List.{get_or_append_left, get_or_at}
use Rattle.first_pass_tree.specs.Forest.{end_of, kept_after, childless}
use Rattle.first_pass_tree.proofs.Blocks.{forest-eq}
use Rattle.first_pass_tables.proofs.RowCells.{AppendedBefore}

-- the descendants of the last node of a depth end at the next node of that depth
end_before : (ds more : List ℕ) (d i : ℕ) → IsLastAt ds d i → end_of (ds ++ d ∷ more) i ≡ length ds
end_before ds more d i h =
    let es = ds ++ d ∷ more in
    let at : get_or es i 0 ≡ d = get_or_append_left ds (d ∷ more) 0 i h.within ∙ h.depth in
    let here : get_or es (length ds) 0 ≡ d = get_or_at ds d more 0 (length ds) refl in
    let size = length-append ds (d ∷ more) in
    let within = h.within in
    elim (cases_lt (end_of es i) (length ds)) [
      | inl less ↦
          let same = get_or_append_left ds (d ∷ more) 0 (end_of es i) less in
          let deeper = h.following (end_of es i) (omega arith) less in
          let bound = at-end es i (omega arith) (omega arith) in
          absurd (omega arith)
      | inr past ↦ elim (cases_lt (length ds) (end_of es i)) [
        | inl beyond ↦ (let deeper = before-end es i (length ds) (omega arith) beyond in absurd (omega arith))
        | inr same ↦ omega arith
      ]
    ]

-- the nodes that were added after the current node are dropped
kept_back : {T : Type 0} (f g : Forest T) (c : TreeIndex) (x : T) (more : List (ℕ × T)) → IsForest f → f.current ≡ Some c
    → g.nodes ≡ f.nodes ++ (length f.spine + 1, x) ∷ more → g.spine ≡ f.spine → kept_after g c ≡ f
kept_back {T} f g c x more h q e s =
    let d = length f.spine + 1 in
    let l = subst (λ (o : Option TreeIndex). IfSome o (λ c. IsLastAt (depths f.nodes) d c.0)) q h.at_current in
    let m : depths g.nodes ≡ depths f.nodes ++ d ∷ depths more = ap (λ (ns : List (ℕ × T)). depths ns) e ∙ map-append (λ n. n.0) f.nodes ((d, x) ∷ more) in
    let r : end_of (depths g.nodes) c.0 ≡ length f.nodes =
    ap (λ ds. end_of ds c.0) m ∙ end_before (depths f.nodes) (depths more) d c.0 l ∙ length-map f.nodes (λ n. n.0) in
    forest-eq (kept_after g c) f (ap (λ n. take n g.nodes) r ∙ ap (take (length f.nodes)) e ∙ take-append_seam f.nodes ((d, x) ∷ more)) s (sym q)

-- the nodes that were added below the innermost open node, which had no children, are dropped
childless_back : {T : Type 0} (f g : Forest T) (ix : TreeIndex) (rest : List (ℕ × T)) → f.current ≡ None → ix.0 + 1 ≡ length f.nodes
    → g.nodes ≡ f.nodes ++ rest → g.spine ≡ f.spine → childless g ix ≡ f
childless_back f g ix rest q l e s =
    forest-eq (childless g ix) f (ap (λ n. take n g.nodes) l ∙ ap (take (length f.nodes)) e ∙ take-append_seam f.nodes rest) s (sym q)

-- the current node is a child of the innermost open one
current_child : {T : Type 0} (f : Forest T) (c : TreeIndex) → IsForest f → f.current ≡ Some c → IsChild f c
current_child {T} f c h is = grind (arith, length-map, open-last, last-order)

-- the trees are alike, except for further nodes in the second one; the first of these is a child of the innermost
-- open node
pub record HasMore (f g : Forest Item) : Type 0 where
  pub x : Item
  pub rest : List (ℕ × Item)
  pub nodes : g.nodes ≡ f.nodes ++ (length f.spine + 1, x) ∷ rest
  pub spine : g.spine ≡ f.spine

-- The current node is still a child of the innermost open one. If the nodes after it are dropped, the tree is as before.
pub dropped : {f g : Forest Item} (o : Option TreeIndex) → o ≡ f.current → IsForest f → IsOpenNode f → HasMore f g
    → IfSome o (λ ix. IsChild g ix) × (without_after g o ≡ f)
dropped {f} {g} None is h n more =
    let here : slice_get g.spine 0 ≡ Some n.place = ap (λ (s : List TreeIndex). slice_get s 0) (more.spine ∙ n.innermost) in (
      tt,
      ap (without_children g) here
          ∙ childless_back f g n.place ((length f.spine + 1, more.x) ∷ more.rest) (sym is) (n.childless (sym is)) more.nodes more.spine,
    )
dropped {f} {g} (Some c) is h n more = (
  child-kept f g ((length f.spine + 1, more.x) ∷ more.rest) c more.nodes more.spine (current_child f c h (sym is)),
  kept_back f g c more.x more.rest h (sym is) more.nodes more.spine,
)

-- the innermost open node, to which cells were appended since it was opened
pub still_open_node : {d : Document} {start at : Spot} {count : ℕ} {old tree : Forest Item} {ix : TreeIndex} → IsJustPushed old ix
    → AreAppended d start old tree at count → IsOpenNode tree
still_open_node {ix = ix} pushed far = record {
  place = ix;
  around = pushed.rest;
  innermost = far.spine ∙ pushed.innermost;
  childless = λ none. pushed.last ∙ ap length (sym (far.none none));
}

-- the trees have the same nodes, and the same are open
abbrev pub HaveSame : Forest Item → Forest Item → Type 0
HaveSame f g = (f.nodes ≡ g.nodes) × (f.spine ≡ g.spine)

-- all cells of a row after a place are appended to a tree
module _ {d : Document} {at stop : Spot} {count : ℕ} {tree over : Forest Item} (all : AreAllAppended d at tree over stop count) where
  -- Without cells, no node is added.
  none_by : (cells : List (List (ℕ × Item))) → length cells ≡ 0 → over.nodes ≡ tree.nodes ++ at_depth (length tree.spine + 1) (side_by_side cells)
      → over.nodes ≡ tree.nodes
  none_by [] empty nodes = nodes ∙ append-nil tree.nodes
  none_by (cell ∷ cells) empty nodes = absurd (omega arith)

  -- With cells, the first node that is added is the item of a cell.
  more_by : (cells : List (List (ℕ × Item))) → 0 < length cells → AreCells d at cells stop
      → over.nodes ≡ tree.nodes ++ at_depth (length tree.spine + 1) (side_by_side cells) → HasMore tree over
  unfolding AreCells
  more_by [] some are nodes = absurd (omega arith)
  more_by (cell ∷ cells) some (on, tokens, next, is, same, more) nodes =
      let depth = length tree.spine + 1 in
      let z : depth + 0 ≡ depth = omega arith in
      let x : Item = record { start = cell_start d.text at.at; «end» = next.at; body = TableCell } in
      let rest = at_depth depth (at_depth 1 (leaves tokens) ++ side_by_side cells) in
      record {
        x = x;
        rest = rest;
        nodes = nodes ∙ ap (λ (c : List (ℕ × Item)). tree.nodes ++ at_depth depth (c ++ side_by_side cells)) same
            ∙ ap (λ (k : ℕ). tree.nodes ++ (k, x) ∷ rest) z;
        spine = all.spine;
      }

  -- if no cell is appended, the tree is the same
  pub none_more : count ≡ 0 → HaveSame over tree
  none_more empty = (none_by all.cells (sym all.count_is ∙ empty) all.nodes, all.spine)

  -- if some are, it has more nodes
  pub has_more : 0 < count → HasMore tree over
  has_more some = (let count_is = all.count_is in more_by all.cells (omega arith) all.are_cells all.nodes)

  -- The cells before that place are kept, as many as there are columns.
  pub first_kept : {start : Spot} {columns first : ℕ} {old new : Forest Item} → AppendedBefore d start old tree at first → first ≡ columns → HaveSame new tree
      → AppendsCells d columns start old new (stop, first + count)
  first_kept {old = old} b full same =
      let far = b.far in
      let count_is = far.count_is in
      let more_is = all.count_is in
      record {
        cells = far.cells ++ all.cells;
        are_cells = far.go_on d.names b.grown all.cells stop all.are_cells;
        count = omega (arith, length-append far.cells all.cells);
        nodes = same.0 ∙ far.nodes ∙ ap (λ (cells : List (List (ℕ × Item))). old.nodes ++ at_depth (length old.spine + 1) (side_by_side cells))
            (sym (ap (λ (n : ℕ). take n (far.cells ++ all.cells)) (sym full ∙ count_is) ∙ take-append_seam far.cells all.cells));
        spine = same.1 ∙ far.spine;
      }

-- a row has fewer cells than the text has bytes
pub ended_within : {d : Document} {most : ℕ} {start : Spot} {old new : Forest Item} {read : CellsRead} {after : MathBraces}
    → AppendsSome d most start old new (read, after) → length d.text < most → AreAllAppended d start old new (spot read.at after) read.count
ended_within {read = read} some short =
    elim (cases_Bool read.ended) [
      | inl is ↦ some.all is
      | inr is ↦
          let first = some.first is in
          let later = first.0.later in
          let within = first.0.within in
          let full = first.1 in
          absurd (omega arith)
    ]
