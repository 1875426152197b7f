-- A block with text is opened in an item, and the marker of its task list item is appended to it: the open nodes can be
-- closed in order.
use Rattle.std.proofs.Common.{◌≡◌, inr, ℕ, suc, ◌+◌, ◌≤◌, Bool, true, false, List, [], ◌∷◌, ◌++◌, append_assoc, length, slice_get, Option, Some, refl, sym, ap}
use Rattle.std.proofs.Common.{subst, ◌∙◌, arith, if◌then◌else◌, option_and_then, option_map, IsCharBoundary}
use Rattle.first_pass_grammar.proofs.Common.{false≢true, Item, ItemBody, Paragraph, Heading, DefinitionListTitle, MaybeDefinitionListTitle, TreeIndex, Forest}
use Rattle.first_pass_grammar.proofs.Common.{appended, body_at, item_on_top, Ranged, extent_of, extents, is_task_marker, is_text_block, Siblings, Empty}
use Rattle.first_pass_grammar.proofs.Common.{IsBetween, Within, Elsewhere, InItem, InText, below, Fits, laid_open, AreAt, open_within, FitsOpen, IsOrderedTo}
use Rattle.first_pass.proofs.Common.{TightParagraph, MayAddAt, top_there, begun, with_block, with_tree}
use Rattle.first_pass_grammar.specs.OpenOrder.{is_in_item}
use Rattle.first_pass_grammar.specs.Order.{Node, is_list_item}
use Rattle.first_pass_grammar.proofs.Order.Orders.{extents-append, laid-one, laid_open-level, length-extents, length-places}
use Rattle.first_pass_blocks.proofs.Common.{begun_item, is_list, PassState, reached, ordered_later, ordered_none}
use Rattle.first_pass.proofs.BetweenCalls.{may_add_begun}
use Rattle.first_pass.proofs.Adding.{appended_outside, may_add_by, outside_of}

-- a block with text is no item and no list
text_is : (body : ItemBody) → is_text_block body ≡ true → (is_list_item body ≡ false) × (is_list (Some body) ≡ false)
text_is Paragraph h = (refl, refl)
text_is TightParagraph h = (refl, refl)
text_is (Heading level index) h = (refl, refl)
text_is DefinitionListTitle h = (refl, refl)
text_is MaybeDefinitionListTitle h = (refl, refl)
text_is body h = absurd (false≢true h)

-- the innermost open node is an item
in_item : (nodes : List (ℕ × Item)) (root : Ranged) (levels : List (Siblings × Ranged)) (row : Siblings) (spine : List TreeIndex)
    → extents nodes ≡ laid_open root levels row → AreAt root levels spine
    → item_on_top (option_and_then (λ ix. body_at nodes ix.0) (slice_get spine 0)) ≡ true → open_within levels ≡ InItem
in_item nodes root [] row [] is places inside = absurd (false≢true inside)
in_item nodes root [] row (ix ∷ spine) is places inside = absurd places
in_item nodes root (level ∷ levels) row [] is places inside = absurd places
in_item nodes root (level ∷ levels) row (ix ∷ spine) is places inside =
    let (m, here, extent) = top_there nodes root level levels row ix is places.0 in
    let own : is_list_item m.1.body ≡ level.1.item = ap (λ (n : ℕ × Ranged). n.1.item) extent in
    let top = ap (λ (o : Option (ℕ × Item)). item_on_top (option_map (λ (n : ℕ × Item). n.1.body) o)) here in
    let item : level.1.item ≡ true = sym own ∙ sym top ∙ inside in
    ap (λ (t : Bool). if t then InItem else Elsewhere) item

-- the marker fits before the text of the block
below_item : (w : Within) (from : ℕ) (x : Ranged) → w ≡ InItem → x.item ≡ false → x.text_block ≡ true → below w from x ≡ InText from
below_item w from x is item block = rw (is, item, block) refl

marker_fits : (text : List ℕ) (from start : ℕ) (m : Ranged) → m.marker ≡ true → IsBetween text from start m
    → Fits text (InText from) start start (Node m Empty Empty)
unfolding Fits
marker_fits text from start m marker b = inr ((marker, b), b.order, omega arith)

module _ (text : List ℕ) (from : ℕ) (x m : Ranged) where
  open_fits : (levels : List (Siblings × Ranged)) (row : Siblings) → open_within levels ≡ InItem → x.item ≡ false → x.text_block ≡ true → from ≤ x.start
      → IsCharBoundary text x.start → m.marker ≡ true → IsBetween text from x.start m → FitsOpen text from levels row
      → FitsOpen text x.start ((row, x) ∷ levels) (Node m Empty Empty)
  unfolding FitsOpen
  open_fits levels row inside item block low starts marker b h = (
    from,
    low,
    subst (λ (w : Within). Fits text w x.start x.start (Node m Empty Empty)) (sym (below_item (open_within levels) from x inside item block))
        (marker_fits text from x.start m marker b),
    starts,
    h,
  )

-- the nodes
marked_nodes : (nodes : List (ℕ × Item)) (root : Ranged) (levels : List (Siblings × Ranged)) (row : Siblings) (x m : Item)
    → extents nodes ≡ laid_open root levels row
    → extents ((nodes ++ (suc (length levels), x) ∷ []) ++ (suc (suc (length levels)), m) ∷ [])
    ≡ laid_open root ((row, extent_of x) ∷ levels) (Node (extent_of m) Empty Empty)
marked_nodes nodes root levels row x m is =
    let d : ℕ = suc (length levels) in
    let front : List (ℕ × Ranged) = laid_open root levels row in
    extents-append (nodes ++ (d, x) ∷ []) ((suc d, m) ∷ [])
    ∙ ap (λ (z : List (ℕ × Ranged)). z ++ (suc d, extent_of m) ∷ [])
    (extents-append nodes ((d, x) ∷ []) ∙ ap (λ (z : List (ℕ × Ranged)). z ++ (d, extent_of x) ∷ []) is)
    ∙ append_assoc front ((d, extent_of x) ∷ []) ((suc d, extent_of m) ∷ [])
    ∙ ap (λ (z : List (ℕ × Ranged)). front ++ (d, extent_of x) ∷ z) (sym (laid-one (suc d) (extent_of m)))
    ∙ sym (laid_open-level root (row, extent_of x) levels (Node (extent_of m) Empty Empty))

module _ (text : List ℕ) (r : PassState) (at from start : ℕ) (body : ItemBody) (m : Item) where
  abbrev opened : PassState
  opened = begun start body (with_block r r.tree)

  abbrev marked : Forest Item
  marked = appended opened.tree m

  marked_ordered : is_in_item r.tree ≡ true → is_text_block body ≡ true → from ≤ start → IsCharBoundary text start → is_task_marker m.body ≡ true
      → IsBetween text from start (extent_of m) → IsOrderedTo text r.tree from → IsOrderedTo text marked start
  marked_ordered inside is_text low starts marker b o =
      let x : Item = begun_item start body in
      let size = length-places o.root o.levels r.tree.spine o.places in
      let d : length r.tree.spine + 1 ≡ suc (length o.levels) = omega arith in
      let e : suc (length r.tree.spine) + 1 ≡ suc (suc (length o.levels)) = omega arith in
      record {
        root = o.root;
        levels = (o.row, extent_of x) ∷ o.levels;
        row = Node (extent_of m) Empty Empty;
        nodes = rw (d, e) (marked_nodes r.tree.nodes o.root o.levels o.row x m o.nodes);
        places = (sym (length-extents r.tree.nodes) ∙ ap length o.nodes, o.places);
        fits = open_fits text from (extent_of x) (extent_of m) o.levels o.row
            (in_item r.tree.nodes o.root o.levels o.row r.tree.spine o.nodes o.places inside) (text_is body is_text).0 is_text low starts marker b o.fits;
        within = starts.0;
        whole = o.whole;
      }

  pub marked_may_add : MayAddAt text r at → at ≤ from → is_in_item r.tree ≡ true → is_text_block body ≡ true → IsCharBoundary text start
      → is_task_marker m.body ≡ true → IsBetween text from start (extent_of m) → MayAddAt text (with_tree opened marked) start
  marked_may_add c early inside is_text starts marker b =
      let first = b.following in
      let order = b.order in
      let last = b.before in
      let low : from ≤ start = omega arith in
      let before = c.read.0.later in
      let within = starts.0 in
      let o = ordered_later text r.tree (reached r.begin_list_item at) from (omega arith) (omega arith) c.read.0.ordered in
      let outside = outside_of (may_add_begun text r at start body c (omega arith) starts (text_is body is_text).1) in
      may_add_by text (with_tree opened marked) marked start refl (appended_outside opened.tree m outside)
      (ordered_none text (with_tree opened marked) start refl within (marked_ordered inside is_text low starts marker b o))
