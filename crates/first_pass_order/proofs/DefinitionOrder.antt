-- Order when definition lists are opened and closed: a paragraph becomes a title, a possible title is kept, and one
-- that is no title is moved out of its list.
use Rattle.std.proofs.Common.{◌≡◌, ℕ, suc, ◌+◌, ◌<◌, ◌≤◌, not, is_some, Bool, true, false, if◌then◌else◌, List, [], ◌∷◌, ◌++◌, length, take, drop, slice_get}
use Rattle.std.proofs.Common.{Option, Some, None, IsCharBoundary, refl, sym, ap, subst, ◌∙◌, arith, length-append, IsSomeAnd, option_and_then, option_map}
use Rattle.first_pass_grammar.proofs.Common.{and_parts, take-append_seam, drop-append_seam, option_map_or, Item, Paragraph, MaybeDefinitionListTitle, TreeIndex}
use Rattle.first_pass_grammar.proofs.Common.{Forest, IsForest, modify, with_body_at, with_end_at, body_at, item_at, at_depth, added, with_end, body-kept}
use Rattle.first_pass_grammar.proofs.Common.{body-changed, Ranged, extent_of, extents, is_task_marker, laid, Elsewhere, InItem, FitsBetween, laid_open, AreAt}
use Rattle.first_pass_grammar.proofs.Common.{open_within, FitsOpen, within_top, IsOrderedTo, length-modify}
use Rattle.first_pass_order.proofs.Common.{PassState, closed_none, top_of, AreNested, EndsBeforeTitle, CanClose, IsReadTo, AddsBetween}
use Rattle.first_pass_grammar.proofs.Order.Orders.{ended_at, extents-append, length-extents, extents-at_depth, laid-at_depth, laid_open-level, below_ended}
use Rattle.first_pass_grammar.proofs.Order.Orders.{extents-ended, between-any}
use Rattle.first_pass_order.proofs.RowSplits.{current_child, open_last_fits, extents-split}
use Rattle.first_pass_lists.specs.Closing.{with_tree, gap_marked, top_body, current_body, top_end, definitions_closed, possible_title, definitions_left}
use Rattle.first_pass_lists.specs.Closing.{title_begun, is_after_definition, is_definition_list as is_definitions}
use Rattle.first_pass_order.proofs.Nests.{classed_ended, nested_classed, like_nested, definitions_are, title_there, definitions_closed_outside, noted_outside}
use Rattle.first_pass_order.proofs.Nests.{outside_closes, nested_front, top_front}
use Rattle.first_pass_order.proofs.OrderLemmas.{ordered_with, ordered_same, ordered_added, ordered_none, inner}
use Rattle.first_pass_order.proofs.PopOrder.{noted_empty}
use Rattle.first_pass_order.proofs.AlikeNodes.{alike_ended, LooksAlike, like_itself, like_body}
use Rattle.first_pass_order.proofs.PropertyKept.{IsLeft, is_left, noted_keeps}
use Rattle.first_pass_order.proofs.LeftOrder.{extents_alike, order_kept, modify-front, end_there, left_ordered}

-- the innermost open node has another end
ordered_reended : (text : List ℕ) (f : Forest Item) (a e : ℕ) (ix : TreeIndex) (rest : List TreeIndex) → f.spine ≡ ix ∷ rest → IsOrderedTo text f a
    → IsOrderedTo text (with_end_at f ix e) a
unfolding FitsOpen
ordered_reended text f a e ix rest spine h =
    let l = inner text f a ix rest spine h in
    let x : Ranged = ended_at l.level.1 e in
    let (before, low, fits, starts, outer) = l.fits in
    record {
      root = l.root;
      levels = (l.level.0, x) ∷ l.levels;
      row = l.row;
      nodes = extents-ended f.nodes (laid_open l.root l.levels l.level.0) (suc (length l.levels), l.level.1) (laid (suc (suc (length l.levels))) l.row) ix.0 e
          (l.nodes ∙ laid_open-level l.root l.level l.levels l.row) l.place ∙ sym (laid_open-level l.root (l.level.0, x) l.levels l.row);
      places = subst (AreAt l.root ((l.level.0, x) ∷ l.levels)) (sym spine) (l.place, l.outer);
      fits = (before, low, rw (below_ended (open_within l.levels) before l.level.1 e) fits, starts, outer);
      within = h.within;
      whole = l.whole;
    }

-- A block was added to an innermost definition list, right after a definition. The tree was in order up to the end of
-- that definition, and the block is read up to another offset.
record AddedAfterDefinition (text : List ℕ) (old : Forest Item) : Type 0 where
  list : TreeIndex
  outer : List TreeIndex
  spine : old.spine ≡ list ∷ outer
  low : list.0 < length old.nodes
  items : List (ℕ × Item)
  «end» : ℕ
  next : ℕ
  ordered : IsOrderedTo text old «end»
  boundary : IsCharBoundary text «end»
  fits : FitsBetween text Elsewhere «end» next items
  within : next ≤ length text

module _ (text : List ℕ) (old : Forest Item) (b : AddedAfterDefinition text old) where
  -- the place of the block
  abbrev place : TreeIndex
  place = record { 0 = length old.nodes }

  -- the nodes before it, after the list has that end
  abbrev ended : List (ℕ × Item)
  ended = modify old.nodes b.list.0 (λ x. record x { «end» = b.«end» })

  block_extents : extents (at_depth (length old.spine + 1) b.items) ≡ laid (suc (length old.spine)) b.fits.0
  block_extents = grind (arith, extents-at_depth, laid-at_depth)

  -- the closed list, with the block after it
  block_left : (q : PassState) → q.tree ≡ added old b.items → IsOrderedTo text (definitions_closed b.«end» q).tree b.next
  block_left q is =
      let f : Forest Item = added old b.items in
      let block : List (ℕ × Item) = at_depth (length old.spine + 1) b.items in
      let sum = length-append old.nodes block in
      let left : IsLeft f (definitions_closed b.«end» q).tree b.«end» place =
      is_left f q b.«end» place b.list b.outer (rw is (like_itself f)) b.spine refl (omega arith) (λ h. rw is h) in
      left_ordered text f (definitions_closed b.«end» q).tree b.next b.«end» place left (record {
        before = ordered_same text old _ b.«end» (rw (take-append_seam old.nodes block) refl) refl b.ordered;
        ends = b.boundary;
        row = b.fits.0;
        last = rw (drop-append_seam old.nodes block) block_extents;
        fits = b.fits.2;
      }) b.within

  -- a possible title is kept: the block is one, and the recorded end of the list is the offset
  abbrev kept_tree : Forest Item
  kept_tree = with_end_at (with_body_at (added old b.items) place MaybeDefinitionListTitle) b.list b.«end»

  module _ (paragraph : body_at (added old b.items).nodes (length old.nodes) ≡ Some Paragraph) where
    as_possible_title : LooksAlike (added old b.items) (with_body_at (added old b.items) place MaybeDefinitionListTitle)
    as_possible_title = like_body (added old b.items) place Paragraph MaybeDefinitionListTitle paragraph (refl, λ h. refl)

    kept_extents : extents kept_tree.nodes ≡ extents ended ++ laid (suc (length old.spine)) b.fits.0
    kept_extents =
        let to : Item → Item = λ x. record x { «end» = b.«end» } in
        let block : List (ℕ × Item) = at_depth (length old.spine + 1) b.items in
        let alike = alike_ended (added old b.items).nodes _ b.list.0 b.«end» as_possible_title.nodes in
        let front = modify-front old.nodes block b.list.0 to b.low in
        cc (extents_alike (modify (added old b.items).nodes b.list.0 to) kept_tree.nodes alike, extents-append ended block, block_extents)

    kept_split : (extents (take (length old.nodes) kept_tree.nodes) ≡ extents ended)
        × (extents (drop (length old.nodes) kept_tree.nodes) ≡ laid (suc (length old.spine)) b.fits.0)
    kept_split =
        extents-split kept_tree.nodes (extents ended) (laid (suc (length old.spine)) b.fits.0) (length old.nodes) kept_extents
        (sym (length-extents ended ∙ length-modify old.nodes b.list.0 (λ x. record x { «end» = b.«end» })))

    kept_end : top_end kept_tree ≡ b.«end»
    kept_end =
        let to : Item → Item = λ x. record x { body = MaybeDefinitionListTitle } in
        let n = length-modify (added old b.items).nodes (length old.nodes) to in
        let k = length-append old.nodes (at_depth (length old.spine + 1) b.items) in
        ap (λ (s : List TreeIndex). option_map_or (λ x. x.«end») (option_and_then (λ ix. item_at kept_tree ix) (slice_get s 0)) 0) b.spine
        ∙ end_there (modify (added old b.items).nodes (length old.nodes) to) b.list.0 b.«end» (omega (arith, b.low))

    kept_title : EndsBeforeTitle text kept_tree b.next
    kept_title title is =
        let here : title ≡ place = (let current = (title_there kept_tree title is).current in cc) in
        rw here (record {
          before = rw kept_end (ordered_same text (with_end_at old b.list b.«end») _ b.«end» kept_split.0 refl
              (ordered_reended text old b.«end» b.«end» b.list b.outer b.spine b.ordered));
          ends = rw kept_end b.boundary;
          row = b.fits.0;
          last = kept_split.1;
          fits = rw kept_end b.fits.2;
        })

    kept_ordered : IsOrderedTo text kept_tree b.next
    kept_ordered =
        let a : Forest Item = added old b.items in
        let m : Forest Item = with_body_at a place MaybeDefinitionListTitle in
        ordered_reended text m b.next b.«end» b.list b.outer b.spine
        (ordered_same text a m b.next (extents_alike a.nodes m.nodes as_possible_title.nodes) refl
        (ordered_added text old b.«end» b.next b.items (between-any text (within_top old) b.«end» b.next b.items b.fits) b.within b.ordered))

    kept_closes : AreNested old.nodes old.spine → CanClose text kept_tree b.next
    kept_closes h =
        let a : Forest Item = added old b.items in
        let m : Forest Item = with_body_at a place MaybeDefinitionListTitle in
        let title : body_at kept_tree.nodes place.0 ≡ Some MaybeDefinitionListTitle =
        body-kept m.nodes b.list.0 place.0 (λ x. record x { «end» = b.«end» }) (λ x. refl)
        ∙ body-changed a.nodes place.0 (λ x. record x { body = MaybeDefinitionListTitle }) Paragraph MaybeDefinitionListTitle paragraph (λ x is. refl) in
        record {
          nested = nested_classed m.nodes kept_tree.nodes old.spine (classed_ended m.nodes b.list.0 b.«end»)
              (like_nested a m as_possible_title (nested_front old.nodes (at_depth (length old.spine + 1) b.items) old.spine h));
          last = λ list. subst (λ o. IsSomeAnd o (λ b. is_task_marker b ≡ false)) (sym title) refl;
          title = kept_title;
        }

-- If a definition is last in a definition list: both, and the end of the definition.
record AfterDefinition (f : Forest Item) : Type 0 where
  pub place : TreeIndex
  pub outer : List TreeIndex
  pub last : TreeIndex
  pub definition : Item
  pub spine : f.spine ≡ place ∷ outer
  pub list : is_definitions (body_at f.nodes place.0) ≡ true
  pub current : f.current ≡ Some last
  pub here : item_at f last ≡ Some definition
  pub plain : is_task_marker definition.body ≡ false

last_item : (o : Option (ℕ × Item)) → IsSomeAnd (option_map (λ n. n.1.body) o) (λ b. is_task_marker b ≡ false)
    → (y : Item) × (option_map (λ n. n.1) o ≡ Some y) × (is_task_marker y.body ≡ false)
last_item None h = absurd h
last_item (Some n) h = (n.1, refl, h)

after_by : (f : Forest Item) (s : List TreeIndex) (o : Option TreeIndex) → f.spine ≡ s → f.current ≡ o → is_definitions (top_of f.nodes s) ≡ true
    → IsSomeAnd (option_and_then (λ ix. body_at f.nodes ix.0) o) (λ b. is_task_marker b ≡ false) → AfterDefinition f
after_by f [] o spine current list last = cc
after_by f (ix ∷ rest) None spine current list last = absurd last
after_by f (ix ∷ rest) (Some c) spine current list last = grind (arith, last_item)

-- A paragraph, heading or table is read right after a definition. The tree before it is in order up to an offset, and
-- the block starts at another.
pub record ReadAfterDefinition (text : List ℕ) (r : PassState) (read : Forest Item) (next : ℕ) : Type 0 where
  pub at : ℕ
  pub start : ℕ
  pub forest : IsForest r.tree
  pub after : is_after_definition r.tree ≡ true
  pub none : r.begin_list_item ≡ None
  pub ordered : IsOrderedTo text r.tree at
  pub closes : CanClose text r.tree at
  pub later : at ≤ start
  pub adds : (from : ℕ) → from ≤ start → AddsBetween text from next r.tree read
  pub within : next ≤ length text

module _ (text : List ℕ) (r : PassState) (read : Forest Item) (next : ℕ) (h : ReadAfterDefinition text r read next) where
  list_top : is_definitions (top_body r.tree) ≡ true
  list_top = (and_parts (is_definitions (top_body r.tree)) (not (is_some (possible_title r.tree))) h.after).0

  the_definition : AfterDefinition r.tree
  the_definition = after_by r.tree r.tree.spine r.tree.current refl refl list_top (h.closes.last list_top)

  -- The definition is no task list item marker, so the tree is in order up to its end.
  ordered_before : IsOrderedTo text r.tree the_definition.definition.«end» × (the_definition.definition.«end» ≤ h.at)
      × IsCharBoundary text the_definition.definition.«end»
  ordered_before =
      let d : AfterDefinition r.tree = the_definition in
      let o = h.ordered in
      let l = current_child text r.tree h.at d.last d.definition h.forest d.current d.here o in
      let e = open_last_fits text h.at o.levels l.before (extent_of d.definition) l.kids d.plain (subst (FitsOpen text h.at o.levels) l.row_is o.fits) in
      let low : d.definition.«end» ≤ h.at = e.0 in
      let fits = subst (FitsOpen text d.definition.«end» o.levels) (sym l.row_is) (e.2 d.definition.«end» (omega arith) e.1) in
      (ordered_with text r.tree r.tree h.at d.definition.«end» o o.row o.nodes refl fits (omega (arith, o.within)), low, e.1)

  the_block : AddsBetween text the_definition.definition.«end» next r.tree read
  the_block = h.adds the_definition.definition.«end» (let a = ordered_before.1 in omega (arith, h.later))

  abbrev block : AddedAfterDefinition text r.tree
  block = record {
    list = the_definition.place;
    outer = the_definition.outer;
    spine = the_definition.spine;
    low = (subst (AreNested r.tree.nodes) the_definition.spine h.closes.nested).0;
    items = the_block.items;
    «end» = the_definition.definition.«end»;
    next = next;
    ordered = ordered_before.0;
    boundary = ordered_before.2;
    fits = subst (λ w. FitsBetween text w the_definition.definition.«end» next the_block.items)
        (ap (λ (t : Bool). if t then InItem else Elsewhere) (definitions_are (top_body r.tree) list_top).3) the_block.fits;
    within = h.within;
  }

  -- the end of the last child
  last_end : option_map_or (λ x. x.«end») (option_and_then (item_at r.tree) r.tree.current) 0 ≡ the_definition.definition.«end»
  last_end = cc (the_definition.current, the_definition.here)

  -- a heading or a table: the list ends before it
  pub read_definitions_left : (e : ℕ) → option_map_or (λ x. x.«end») (option_and_then (item_at r.tree) r.tree.current) 0 ≡ e
      → IsReadTo text (definitions_left e (with_tree r read)) next
  unfolding definitions_left
  read_definitions_left at is =
      let e : ℕ = the_definition.definition.«end» in
      let items : List (ℕ × Item) = the_block.items in
      let a : PassState = with_tree r (added r.tree items) in
      let shut : PassState = definitions_closed e a in
      let closed : IsOrderedTo text shut.tree next = block_left text r.tree block a refl in
      let more = nested_front r.tree.nodes (at_depth (length r.tree.spine + 1) items) r.tree.spine h.closes.nested in
      let top = ap is_definitions (top_front r.tree.nodes (at_depth (length r.tree.spine + 1) items) r.tree.spine h.closes.nested) ∙ list_top in
      let outside = noted_outside shut (definitions_closed_outside e a more top) in
      let state : ℕ → Forest Item → PassState = λ k z. definitions_left k (with_tree r z) in
      subst (λ k. IsReadTo text (state k read) next) (sym last_end ∙ is)
      (subst (λ (z : Forest Item). IsReadTo text (state e z) next) (sym the_block.tree_is) (
        ordered_none text (gap_marked shut) next (noted_empty shut ∙ closed_none e a h.none) h.within
            (noted_keeps (order_kept text) next 0 shut closed),
        outside_closes text (gap_marked shut) next outside,
      ))

  -- a paragraph: it is a possible title
  pub read_title_begun : (e : ℕ) → option_map_or (λ x. x.«end») (option_and_then (item_at r.tree) r.tree.current) 0 ≡ e
      → current_body read ≡ Some Paragraph → IsReadTo text (title_begun e (with_tree r read)) next
  unfolding title_begun
  read_title_begun at is paragraph =
      let e : ℕ = the_definition.definition.«end» in
      let items : List (ℕ × Item) = the_block.items in
      let there : body_at (added r.tree items).nodes (length r.tree.nodes) ≡ Some Paragraph =
      sym (ap (λ (f : Forest Item). current_body f) the_block.tree_is) ∙ paragraph in
      let kept : Forest Item = kept_tree text r.tree block in
      let same : (title_begun e (with_tree r (added r.tree items))).tree ≡ kept =
      ap (λ (s : List TreeIndex). with_end (with_body_at (added r.tree items) (record { 0 = length r.tree.nodes }) MaybeDefinitionListTitle) e (slice_get s 0))
      the_definition.spine in
      let state : ℕ → Forest Item → PassState = λ k z. title_begun k (with_tree r z) in
      subst (λ k. IsReadTo text (state k read) next) (sym last_end ∙ is)
      (subst (λ (z : Forest Item). IsReadTo text (state e z) next) (sym the_block.tree_is) (
        ordered_none text (state e (added r.tree items)) next h.none h.within
            (subst (λ (z : Forest Item). IsOrderedTo text z next) (sym same) (kept_ordered text r.tree block there)),
        subst (λ (z : Forest Item). CanClose text z next) (sym same) (kept_closes text r.tree block there h.closes.nested),
      ))
