-- Adding and opening nodes keeps order, and so does closing the innermost open node.
use Rattle.std.proofs.Common.{◌≡◌, ℕ, zero, suc, ◌+◌, ◌≤◌, Bool, true, false, if◌then◌else◌, List, [], ◌∷◌, ◌++◌, length, slice_get, Option, Some, None, IsUtf8}
use Rattle.std.proofs.Common.{IsCharBoundary, refl, sym, ap, subst, ◌∙◌, arith, option_and_then, option_map}
use Rattle.first_pass_grammar.proofs.Common.{IsCharBoundary-start, IsCharBoundary-end, none-some, Item, ItemBody, DefinitionListDefinition, some_mapped}
use Rattle.first_pass_grammar.proofs.Common.{TreeIndex, Forest, empty_forest, with_end_at, body_at, modify, at_depth, appended, added, Ranged, is_text_block}
use Rattle.first_pass_grammar.proofs.Common.{is_task_marker, extent_of, extents, Siblings, Empty, laid, IsBetween, Elsewhere, InItem, Fits, FitsBetween}
use Rattle.first_pass_grammar.proofs.Common.{laid_open, AreAt, open_within, FitsOpen, item_on_top, within_top, IsOrderedTo}
use Rattle.first_pass_order.proofs.Common.{PassState, closed_by, reached, IsOrderedAt}
use Rattle.std.proofs.lemmas.Option.{slice_get-map}
use Rattle.first_pass_items.specs.declared.item.ItemBody.TheVariants.{ListItem as ListItemBody}
use Rattle.first_pass_grammar.specs.Order.{is_list_item, is_definition_list, Node, IsOrdered}
use Rattle.first_pass_grammar.proofs.Order.Orders.{beside, ended_at, extents-append, length-extents, extents-at_depth, laid-at_depth, laid-one}
use Rattle.first_pass_grammar.proofs.Order.Orders.{laid_open-beside, laid_open-pushed, laid_open-level, laid_open-popped, laid_open-root, length-places}
use Rattle.first_pass_grammar.proofs.Order.Orders.{fits-one, fits_open-later, fits_open-beside, fits_open-pushed, fits_open-popped, extents-ended, extents-kept}
use Rattle.first_pass_grammar.proofs.Order.Orders.{fits-whole}
use Rattle.first_pass_lists.specs.Closing.{is_item, popped_by, begun}

-- another forest with the same open nodes, in which the innermost one has these below it
pub ordered_with : (text : List ℕ) (f g : Forest Item) (a b : ℕ) (h : IsOrderedTo text f a) (row : Siblings)
    → extents g.nodes ≡ laid_open h.root h.levels row → g.spine ≡ f.spine → FitsOpen text b h.levels row → b ≤ length text → IsOrderedTo text g b
ordered_with text f g a b h row nodes spine fits within = grind arith

-- a forest with the same extents and open nodes
pub ordered_same : (text : List ℕ) (f g : Forest Item) (a : ℕ)
    → extents g.nodes ≡ extents f.nodes → g.spine ≡ f.spine → IsOrderedTo text f a → IsOrderedTo text g a
ordered_same text f g a nodes spine h = ordered_with text f g a a h h.row (nodes ∙ h.nodes) spine h.fits h.within

-- up to a later offset
pub ordered_later : (text : List ℕ) (f : Forest Item) (a b : ℕ) → a ≤ b → b ≤ length text → IsOrderedTo text f a → IsOrderedTo text f b
ordered_later text f a b later within h = ordered_with text f f a b h h.row h.nodes refl (fits_open-later text a b h.levels h.row later h.fits) within

-- the element after the first ones
pub get_mid : {T : Type 0} (front : List T) (n : T) (more : List T) → slice_get (front ++ n ∷ more) (length front) ≡ Some n
get_mid [] n more = refl
get_mid (m ∷ front) n more = get_mid front n more

-- the node at a place has the extent there
abbrev pub extent_at : ℕ × Item → ℕ × Ranged
extent_at m = (m.0, extent_of m.1)

pub node_there : (nodes : List (ℕ × Item)) (front : List (ℕ × Ranged)) (n : ℕ × Ranged) (more : List (ℕ × Ranged)) (k : ℕ)
    → extents nodes ≡ front ++ n ∷ more → k ≡ length front → (m : ℕ × Item) × (slice_get nodes k ≡ Some m) × (extent_at m ≡ n)
node_there nodes front n more k is at =
    some_mapped extent_at (slice_get nodes k) n
    (sym (slice_get-map extent_at nodes k) ∙ ap (λ z. slice_get z k) is ∙ ap (slice_get (front ++ n ∷ more)) at ∙ get_mid front n more)

pub top_there : (nodes : List (ℕ × Item)) (root : Ranged) (level : Siblings × Ranged) (levels : List (Siblings × Ranged)) (row : Siblings) (ix : TreeIndex)
    → extents nodes ≡ laid_open root (level ∷ levels) row → ix.0 ≡ length (laid_open root levels level.0)
    → (m : ℕ × Item) × (slice_get nodes ix.0 ≡ Some m) × (extent_at m ≡ (suc (length levels), level.1))
top_there nodes root level levels row ix is at =
    node_there nodes (laid_open root levels level.0) (suc (length levels), level.1) (laid (suc (suc (length levels))) row) ix.0
    (is ∙ laid_open-level root level levels row) at

-- the place of an added node
within_open : (nodes : List (ℕ × Item)) (root : Ranged) (levels : List (Siblings × Ranged)) (row : Siblings) (spine : List TreeIndex)
    → extents nodes ≡ laid_open root levels row → AreAt root levels spine
    → open_within levels ≡ (if item_on_top (option_and_then (λ ix. body_at nodes ix.0) (slice_get spine 0)) then InItem else Elsewhere)
within_open nodes root [] row [] is at = refl
within_open nodes root [] row (ix ∷ spine) is at = absurd at
within_open nodes root (level ∷ levels) row [] is at = absurd at
within_open nodes root (level ∷ levels) row (ix ∷ spine) is at =
    let (m, here, extent) = top_there nodes root level levels row ix is at.0 in
    ap (λ (t : Bool). if t then InItem else Elsewhere)
    (sym (ap (λ o. item_on_top (option_map (λ n. n.1.body) o)) here ∙ ap (λ (n : ℕ × Ranged). n.1.item) extent))

-- further nodes in the innermost open one
pub ordered_more : (text : List ℕ) (f g : Forest Item) (a b : ℕ) (more : Siblings)
    → extents g.nodes ≡ extents f.nodes ++ laid (suc (length f.spine)) more → g.spine ≡ f.spine → Fits text (within_top f) a b more → b ≤ length text
    → IsOrderedTo text f a → IsOrderedTo text g b
ordered_more text f g a b more nodes spine fits within h =
    let n : length f.spine ≡ length h.levels = length-places h.root h.levels f.spine h.places in
    ordered_with text f g a b h (beside h.row more)
    (cc (laid_open-beside h.root h.levels h.row more)) spine
    (fits_open-beside text a b h.levels h.row more h.fits
    (subst (λ w. Fits text w a b more) (sym (within_open f.nodes h.root h.levels h.row f.spine h.nodes h.places)) fits)) within

-- a node is added
pub ordered_appended : (text : List ℕ) (f : Forest Item) (a b : ℕ) (x : Item)
    → IsBetween text a b (extent_of x) → b ≤ length text → IsOrderedTo text f a → IsOrderedTo text (appended f x) b
ordered_appended text f a b x between within h =
    let d : length f.spine + 1 ≡ suc (length f.spine) = omega arith in
    ordered_more text f (appended f x) a b (Node (extent_of x) Empty Empty)
    (cc (extents-append f.nodes ((length f.spine + 1, x) ∷ []), laid-one (suc (length f.spine)) (extent_of x)))
    refl (fits-one text (within_top f) a b (extent_of x) between) within h

-- a block is added
pub ordered_added : (text : List ℕ) (f : Forest Item) (a b : ℕ) (items : List (ℕ × Item))
    → FitsBetween text (within_top f) a b items → b ≤ length text → IsOrderedTo text f a → IsOrderedTo text (added f items) b
ordered_added text f a b items (row, is, fits, node_bound) within h =
    let d : ℕ = length f.spine + 1 in
    let z : d + 0 ≡ suc (length f.spine) = omega arith in
    let block : extents (at_depth d items) ≡ laid (suc (length f.spine)) row = cc (extents-at_depth d items, laid-at_depth d 0 row) in
    ordered_more text f (added f items) a b row
    (extents-append f.nodes (at_depth d items) ∙ ap (λ (z : List (ℕ × Ranged)). extents f.nodes ++ z) block) refl fits within h

-- a container or list begins
pub ordered_begun : (text : List ℕ) (r : PassState) (a start : ℕ) (body : ItemBody)
    → a ≤ start → start ≤ length text → IsCharBoundary text start → IsOrderedTo text r.tree a → IsOrderedTo text (begun start body r).tree start
ordered_begun text r a start body later within starts h =
    let f : Forest Item = r.tree in
    let x : Ranged = extent_of (record { start = start; «end» = 0; body = body }) in
    let d : length f.spine + 1 ≡ suc (length h.levels) = (let n = length-places h.root h.levels f.spine h.places in omega arith) in
    let more = extents-append f.nodes ((length f.spine + 1, record { start = start; «end» = 0; body = body }) ∷ []) in
    record {
      root = h.root;
      levels = (h.row, x) ∷ h.levels;
      row = Empty;
      nodes = cc (laid_open-pushed h.root x h.levels h.row);
      places = (sym (length-extents f.nodes) ∙ ap length h.nodes, h.places);
      fits = fits_open-pushed text a x h.levels h.row later starts h.fits;
      within = within;
      whole = h.whole;
    }

-- the whole tree, if only the root is open
whole_by : (text : List ℕ) (nodes : List (ℕ × Item)) (to : ℕ) (root : Ranged) (levels : List (Siblings × Ranged)) (row : Siblings)
    → extents nodes ≡ laid_open root levels row → AreAt root levels [] → FitsOpen text to levels row → to ≤ length text
    → IsBetween text 0 (length text) root × (root.start ≡ 0) × (root.«end» ≡ length text) → IsOrdered text nodes
whole_by text nodes to root [] row is places fits within whole = grind (arith, laid_open-root, fits-whole)
whole_by text nodes to root (level ∷ levels) row is places fits within whole = absurd places

-- a tree in which all nodes are closed
pub ordered_whole : (text : List ℕ) (f : Forest Item) (to : ℕ) → f.spine ≡ [] → IsOrderedTo text f to → IsOrdered text f.nodes
ordered_whole text f to closed h = grind (arith, whole_by)

-- before the first block
pub ordered_first : (text : List ℕ) (tree : Forest Item) (root : TreeIndex)
    → IsUtf8 text → root.0 ≡ 0 → tree ≡ with_end_at empty_forest root (length text) → IsOrderedTo text tree 0
unfolding laid_open laid FitsOpen Fits
ordered_first text tree root utf8 top tree_is =
    let n : 0 ≤ length text = omega arith in
    let z : 0 ≤ 0 = omega arith in
    let l : length text ≤ length text = omega arith in
    rw (tree_is, top) (record {
      root = record { start = 0; «end» = length text; text_block = false; marker = false; item = false; definitions = false };
      levels = [];
      row = Empty;
      nodes = refl;
      places = tt;
      fits = z;
      within = n;
      whole = (record { following = z; order = n; before = l; starts = IsCharBoundary-start text utf8; ends = IsCharBoundary-end text }, refl, refl);
    })

-- the innermost open node of a tree in order, its siblings, and the levels around it
pub record InnerLevel (text : List ℕ) (f : Forest Item) (at : ℕ) (ix : TreeIndex) (rest : List TreeIndex) : Type 0 where
  pub root : Ranged
  pub level : Siblings × Ranged
  pub levels : List (Siblings × Ranged)
  pub row : Siblings
  pub nodes : extents f.nodes ≡ laid_open root (level ∷ levels) row
  pub place : ix.0 ≡ length (laid_open root levels level.0)
  pub outer : AreAt root levels rest
  pub fits : FitsOpen text at (level ∷ levels) row
  pub whole : IsBetween text 0 (length text) root × (root.start ≡ 0) × (root.«end» ≡ length text)

inner_by : (text : List ℕ) (f : Forest Item) (at : ℕ) (ix : TreeIndex) (rest : List TreeIndex) (h : IsOrderedTo text f at) (levels : List (Siblings × Ranged))
    → levels ≡ h.levels → AreAt h.root levels (ix ∷ rest) → InnerLevel text f at ix rest
inner_by text f at ix rest h [] is places = absurd places
inner_by text f at ix rest h (level ∷ levels) is places = grind arith

pub inner : (text : List ℕ) (f : Forest Item) (at : ℕ) (ix : TreeIndex) (rest : List TreeIndex) → f.spine ≡ ix ∷ rest → IsOrderedTo text f at
    → InnerLevel text f at ix rest
inner text f at ix rest spine h = inner_by text f at ix rest h h.levels refl (subst (λ (s : List TreeIndex). AreAt h.root h.levels s) spine h.places)

-- the innermost open node is closed
pub ordered_closed : (text : List ℕ) (f : Forest Item) (at e : ℕ) (ix : TreeIndex) (rest : List TreeIndex)
    → f.spine ≡ ix ∷ rest → at ≤ e → e ≤ length text → IsCharBoundary text e → IsOrderedTo text f at → IsOrderedTo text (closed_by f e (ix ∷ rest)) e
ordered_closed text f at e ix rest spine later within ends h =
    let l = inner text f at ix rest spine h in
    record {
      root = l.root;
      levels = l.levels;
      row = beside l.level.0 (Node (ended_at l.level.1 e) l.row Empty);
      nodes = extents-ended f.nodes (laid_open l.root l.levels l.level.0) (suc (length l.levels), l.level.1) (laid (suc (suc (length l.levels))) l.row) ix.0 e
          (l.nodes ∙ laid_open-level l.root l.level l.levels l.row) l.place
          ∙ sym (laid_open-popped l.root (ended_at l.level.1 e) l.levels l.level.0 l.row);
      places = l.outer;
      fits = fits_open-popped text at e l.level l.levels l.row later ends l.fits;
      within = within;
      whole = l.whole;
    }

pub popped_empty : (r : PassState) (f : Forest Item) (ix : TreeIndex) (b : Option ItemBody) → is_item b ≡ true → (popped_by r f ix b).begin_list_item ≡ None
popped_empty r f ix (Some (ListItemBody columns)) item = refl
popped_empty r f ix (Some (DefinitionListDefinition columns)) item = refl
popped_empty r f ix b item = cc

-- if no item is empty, the order of the state is that of the tree
pub ordered_none : (text : List ℕ) (r : PassState) (at : ℕ) → r.begin_list_item ≡ None → at ≤ length text → IsOrderedTo text r.tree at → IsOrderedAt text r at
ordered_none text r at none within h = grind (arith, none-some)

later_by : (text : List ℕ) (f : Forest Item) (at b : ℕ) (o : Option ℕ) → at ≤ b → b ≤ length text → IsOrderedTo text f (reached o at)
    → reached o at ≤ at → IsOrderedTo text f (reached o b) × (reached o b ≤ b)
later_by text f at b None later within h order = (ordered_later text f at b later within h, omega arith)
later_by text f at b (Some e) later within h order = (h, omega arith)

-- up to a later offset, whether an item is empty or not
pub ordered_at_later : (text : List ℕ) (r : PassState) (at b : ℕ) → at ≤ b → b ≤ length text → IsOrderedAt text r at → IsOrderedAt text r b
ordered_at_later text r at b later within h =
    let l = later_by text r.tree at b r.begin_list_item later within h.ordered h.later in
    record { ordered = l.0; later = l.1; within = within; innermost = h.innermost }

-- the flags of a body that its extent has
abbrev pub flags_of : ItemBody → Bool × Bool × Bool × Bool
flags_of b = (is_text_block b, is_task_marker b, is_list_item b, is_definition_list b)

-- another body at a place, with the same flags
pub list_extent : (x : Item) (a b : ItemBody) → x.body ≡ a → flags_of a ≡ flags_of b
    → extent_of (record { start = x.start; «end» = x.«end»; body = b }) ≡ extent_of x
list_extent x a b is same = grind arith

-- a change at a place that changes each extent alike
pub extents-changed : (nodes : List (ℕ × Item)) (k : ℕ) (g : Item → Item) (h : Ranged → Ranged) → ((x : Item) → extent_of (g x) ≡ h (extent_of x))
    → extents (modify nodes k g) ≡ modify (extents nodes) k h
extents-changed [] k g h same = refl
extents-changed (n ∷ nodes) zero g h same = ap (λ (x : Ranged). (n.0, x) ∷ extents nodes) (same n.1)
extents-changed (n ∷ nodes) (suc k) g h same = ap (λ (z : List (ℕ × Ranged)). (n.0, extent_of n.1) ∷ z) (extents-changed nodes k g h same)

pub extents-body : (nodes : List (ℕ × Item)) (k : ℕ) (a b : ItemBody) → body_at nodes k ≡ Some a → flags_of a ≡ flags_of b
    → extents (modify nodes k (λ x. record x { body = b })) ≡ extents nodes
extents-body nodes k a b is same = extents-kept nodes k (λ x. record x { body = b }) a is (λ x e. list_extent x a b e same)
