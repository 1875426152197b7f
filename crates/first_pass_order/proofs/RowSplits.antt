-- A row of siblings split at its last node: that node, the end of the row, and the row with a definition list in
-- place of a paragraph.
use Rattle.std.proofs.Common.{◌≡◌, ◌⊎◌, inl, inr, ℕ, zero, suc, ◌+◌, ◌-◌, ◌<◌, ◌≤◌, Bool, true, false, List, [], ◌∷◌, ◌++◌, length, map, slice_index}
use Rattle.std.proofs.Common.{slice_get, Some, take, drop, IsCharBoundary, refl, sym, ap, subst, ◌∙◌, arith, if◌then◌else◌, All, option_map, length-append}
use Rattle.first_pass_grammar.proofs.Common.{same_Some, map-append, All-nil, All-cons, All-append, All-map, take-append_seam, drop-append_seam, Item}
use Rattle.first_pass_grammar.proofs.Common.{TreeIndex, Forest, IsForest, IsLastAt, depths, item_at, deeper, shallower, map_from, Ranged, extent_of, extents}
use Rattle.first_pass_grammar.proofs.Common.{Siblings, Empty, laid, Within, Elsewhere, InItem, InText, InFirst, below, beyond, IsLead, Fits, laid_open}
use Rattle.first_pass_grammar.proofs.Common.{open_within, FitsOpen, IsOrderedTo}
use Rattle.std.proofs.lemmas.List.{take-map, drop-map, length-map}
use Rattle.std.proofs.lemmas.List.Elements.{All-weaker}
use Rattle.first_pass_grammar.specs.Order.{Node}
use Rattle.first_pass_grammar.proofs.Order.Orders.{beside, ended_at, laid_open-beside, length-places, fits-order, fits-later, below_ended}
use Rattle.first_pass_order.proofs.OrderLemmas.{node_there}

-- a row's last node with its descendants, and the nodes before it
abbrev pub HasLast : Siblings → Type 0
HasLast row = (before : Siblings) × (x : Ranged) × (kids : Siblings) × (row ≡ beside before (Node x kids Empty))

pub last_of : (row : Siblings) → (row ≡ Empty) ⊎ HasLast row
last_of Empty = inl refl
last_of (Node x kids next) =
    elim (last_of next) [
      | inl none ↦ inr (Empty, x, kids, ap (Node x kids) none)
      | inr (before, y, more, is) ↦ inr (Node x kids before, y, more, ap (Node x kids) is)
    ]

no_lead : (text : List ℕ) (w : Within) (from : ℕ) (x : Ranged) → x.marker ≡ false → IsLead text w from x → ⊥
no_lead text (InText before) from x plain h = (let z : true ≡ false = sym h.0 ∙ plain in cc)
no_lead text w from x plain h = h

-- A node ends between characters, not after an offset. A property holds of it with each later end between characters.
abbrev MayEndLater : List ℕ → ℕ → Ranged → (ℕ → Ranged → Type 0) → Type 0
MayEndLater text to x P = (x.«end» ≤ to) × IsCharBoundary text x.«end» × ((e : ℕ) → x.«end» ≤ e → IsCharBoundary text e → P e (ended_at x e))

-- a row also fits if its last node ends later
last_fits : (text : List ℕ) (w : Within) (from to : ℕ) (before : Siblings) (x : Ranged) (kids : Siblings) → x.marker ≡ false
    → Fits text w from to (beside before (Node x kids Empty)) → MayEndLater text to x (λ e y. Fits text w from e (beside before (Node y kids Empty)))
unfolding Fits
last_fits text w from to Empty x kids plain (inl (b, inside, room)) = (
  b.before,
  b.ends,
  λ e later ends. inl (
    record { following = b.following; order = (let o : x.start ≤ x.«end» = b.order in omega arith); before = omega arith; starts = b.starts; ends = ends },
    subst (λ v. Fits text v x.start e kids) (sym (below_ended w from x e)) (fits-later text (below w from x) x.start x.«end» e kids later inside),
    omega arith,
  ),
)
last_fits text w from to Empty x kids plain (inr (first, inside, room)) = absurd (no_lead text w from x plain first)
last_fits text w from to (Node y more before) x kids plain (inl (b, inside, rest)) =
    let (room, ends, longer) = last_fits text (beyond w) y.«end» to before x kids plain rest in (
      room,
      ends,
      λ e later e_ends.
          let next = longer e later e_ends in
          let y_room = fits-order text (beyond w) y.«end» e (beside before (Node (ended_at x e) kids Empty)) next in
          inl (record { following = b.following; order = b.order; before = y_room; starts = b.starts; ends = b.ends }, inside, next),
    )
last_fits text w from to (Node y more before) x kids plain (inr (first, inside, rest)) =
    let (room, ends, longer) = last_fits text Elsewhere from to before x kids plain rest in
    (room, ends, λ e later e_ends. inr (first, inside, longer e later e_ends))

-- the same in a tree with open nodes
pub open_last_fits : (text : List ℕ) (to : ℕ) (levels : List (Siblings × Ranged)) (before : Siblings) (x : Ranged) (kids : Siblings) → x.marker ≡ false
    → FitsOpen text to levels (beside before (Node x kids Empty))
    → MayEndLater text to x (λ e y. FitsOpen text e levels (beside before (Node y kids Empty)))
unfolding FitsOpen
open_last_fits text to [] before x kids plain h = last_fits text Elsewhere 0 to before x kids plain h
open_last_fits text to (level ∷ levels) before x kids plain (from, low, h, starts, rest) =
    let (room, ends, longer) = last_fits text (below (open_within levels) from level.1) level.1.start to before x kids plain h in
    (room, ends, λ e later e_ends. (from, low, longer e later e_ends, starts, rest))

pub fits_open_last : (text : List ℕ) (to e : ℕ) (levels : List (Siblings × Ranged)) (before : Siblings) (x : Ranged) (kids : Siblings)
    → x.marker ≡ false → x.«end» ≤ e → IsCharBoundary text e
    → FitsOpen text to levels (beside before (Node x kids Empty)) → FitsOpen text e levels (beside before (Node (ended_at x e) kids Empty))
fits_open_last text to e levels before x kids plain later ends h = (open_last_fits text to levels before x kids plain h).2 e later ends

-- a definition list in place of a paragraph
abbrev pub as_list : Ranged → Ranged
as_list x = record { start = x.start; «end» = x.«end»; text_block = false; marker = false; item = false; definitions = true }

-- the innermost open node is a definition list
abbrev pub open_definitions : List (Siblings × Ranged) → Bool
open_definitions [] = false
open_definitions (level ∷ levels) = level.1.definitions

-- directly in an item, or in a node that is neither an item nor a definition list
abbrev IsAround : Bool → Within → Type 0
IsAround item InItem = item ≡ true
IsAround item (InFirst at) = ⊥
IsAround item w = item ≡ false

around_beyond : (item : Bool) (w : Within) → IsAround item w → IsAround item (beyond w)
around_beyond item (InFirst at) h = absurd h
around_beyond item w h = h

around_lead : (text : List ℕ) (item : Bool) (w : Within) (from : ℕ) (y : Ranged) → IsLead text w from y → IsAround item w → IsAround item Elsewhere
around_lead text item (InText at) from y l h = h
around_lead text item w from y l h = absurd l

around_by : (outer item block : Bool) (from : ℕ) (x : Ranged) → x.item ≡ item → x.text_block ≡ block → x.definitions ≡ false
    → IsAround item (below (if outer then InItem else Elsewhere) from x)
around_by true true block from x i b none = rw i refl
around_by true false true from x i b none = rw (i, b) refl
around_by true false false from x i b none = rw (i, b, none) refl
around_by false true block from x i b none = rw i refl
around_by false false block from x i b none = rw i refl

around_level : (levels : List (Siblings × Ranged)) (from : ℕ) (x : Ranged) → x.definitions ≡ false → IsAround x.item (below (open_within levels) from x)
around_level [] from x none = around_by false x.item x.text_block from x refl refl none
around_level (level ∷ levels) from x none = around_by level.1.item x.item x.text_block from x refl refl none

-- a paragraph or another text block, and neither a task list item marker nor an item
pub record IsTextBlock (x : Ranged) : Type 0 where
  pub plain : x.marker ≡ false
  pub other : x.item ≡ false
  pub block : x.text_block ≡ true

titled_below : (mid : ℕ) (item : Bool) (x : Ranged) (w : Within) → IsTextBlock x → IsAround item w
    → below w mid x ≡ below (below (if item then InItem else Elsewhere) mid (as_list x)) x.start x
titled_below mid item x (InFirst at) is h = absurd h
titled_below mid item x w is h = simp (h, is.other, is.block)

-- The last node of a row, a text block, becomes a title: the first child of a definition list in its place.
titled : (text : List ℕ) (w : Within) (item : Bool) (from to : ℕ) (before : Siblings) (x : Ranged) (kids : Siblings) → IsTextBlock x → IsAround item w
    → Fits text w from to (beside before (Node x kids Empty))
    → (mid : ℕ) × (mid ≤ x.start) × Fits text (below (if item then InItem else Elsewhere) mid (as_list x)) x.start to (Node x kids Empty)
    × IsCharBoundary text x.start × Fits text w from mid before
unfolding Fits
titled text w item from to Empty x kids is around (inl (b, inside, room)) = (
  from,
  b.following,
  inl (
    record { following = omega arith; order = b.order; before = b.before; starts = b.starts; ends = b.ends },
    subst (λ v. Fits text v x.start x.«end» kids) (titled_below from item x w is around) inside,
    b.before,
  ),
  b.starts,
  omega arith,
)
titled text w item from to Empty x kids is around (inr (first, inside, room)) = absurd (no_lead text w from x is.plain first)
titled text w item from to (Node y more before) x kids is around (inl (b, inside, rest)) =
    let (mid, low, fits, starts, front) = titled text (beyond w) item y.«end» to before x kids is (around_beyond item w around) rest in
    let room = fits-order text (beyond w) y.«end» mid before front in
    (mid, low, fits, starts, inl (record { following = b.following; order = b.order; before = room; starts = b.starts; ends = b.ends }, inside, front))
titled text w item from to (Node y more before) x kids is around (inr (first, inside, rest)) =
    let (mid, low, fits, starts, front) = titled text Elsewhere item from to before x kids is (around_lead text item w from y first around) rest in
    (mid, low, fits, starts, inr (first, inside, front))

-- the same for the last child of the innermost open node: the list is then open
pub fits_open_titled : (text : List ℕ) (to : ℕ) (levels : List (Siblings × Ranged)) (before : Siblings) (x : Ranged) (kids : Siblings) → IsTextBlock x
    → open_definitions levels ≡ false → FitsOpen text to levels (beside before (Node x kids Empty))
    → FitsOpen text to ((before, as_list x) ∷ levels) (Node x kids Empty)
unfolding FitsOpen
fits_open_titled text to [] before x kids is none h = titled text Elsewhere false 0 to before x kids is refl h
fits_open_titled text to (level ∷ levels) before x kids is none (from, low, h, starts, rest) =
    let w : Within = below (open_within levels) from level.1 in
    let (mid, under, fits, begins, front) =
    titled text w level.1.item level.1.start to before x kids is (around_level levels from level.1 none) h in
    (mid, under, fits, begins, (from, low, front, starts, rest))

-- nodes that are no less deep
abbrev IsDeep : ℕ → ℕ × Ranged → Type 0
IsDeep d n = d ≤ n.0

laid-deep : (d : ℕ) (row : Siblings) → All (IsDeep d) (laid d row)
unfolding laid
laid-deep d Empty = All-nil (IsDeep d)
laid-deep d (Node x kids next) =
    let inside = All-weaker (IsDeep (suc d)) (IsDeep d) (λ n h. omega arith) (laid (suc d) kids) (laid-deep (suc d) kids) in
    All-cons (IsDeep d) (d, x) (laid (suc d) kids ++ laid d next) (omega arith)
    (All-append (IsDeep d) (laid (suc d) kids) (laid d next) inside (laid-deep d next))

depth_there : (front : List (ℕ × Ranged)) (d : ℕ) (x : Ranged) (more : List (ℕ × Ranged)) → slice_index (depths (front ++ (d, x) ∷ more)) (length front) ≡ d
depth_there [] d x more = refl
depth_there (n ∷ front) d x more = depth_there front d x more

deeper_there : (front : List (ℕ × Ranged)) (d e : ℕ) (x : Ranged) (deep : List (ℕ × Ranged)) (k : ℕ) → All (IsDeep d) deep → length front < k
    → k < length (depths (front ++ (e, x) ∷ deep)) → d ≤ slice_index (depths (front ++ (e, x) ∷ deep)) k
deeper_there front d e x deep zero below low high = absurd (omega arith)
deeper_there [] d e x deep (suc k) below low high = All-map (λ e. d ≤ e) (λ (n : ℕ × Ranged). n.0) deep below k 0 (omega arith)
deeper_there (n ∷ front) d e x deep (suc k) below low high = deeper_there front d e x deep k below (omega arith) (omega arith)

-- the last node of a depth is the one with only deeper nodes after it; after one that is less deep there is none
last_place : (front : List (ℕ × Ranged)) (d e : ℕ) (x : Ranged) (deep : List (ℕ × Ranged)) (k : ℕ) → e ≤ d
    → All (IsDeep (suc d)) deep → IsLastAt (depths (front ++ (e, x) ∷ deep)) d k → (e ≡ d) × (k ≡ length front)
last_place front d e x deep k less below h =
    let here = depth_there front e x deep in
    let size = length-map (front ++ (e, x) ∷ deep) (λ n. n.0) in
    let sum = length-append front ((e, x) ∷ deep) in
    let high = deeper_there front (suc d) e x deep k below in
    let there : k ≡ length front = grind (arith, here, size, sum, h.depth, h.within, h.following (length front), high) in
    (sym here ∙ ap (slice_index (depths (front ++ (e, x) ∷ deep))) (sym there) ∙ h.depth, there)

no_child : (root : Ranged) (levels : List (Siblings × Ranged)) (k : ℕ) → IsLastAt (depths (laid_open root levels Empty)) (suc (length levels)) k → ⊥
unfolding laid_open laid
no_child root [] k h = (let none = (last_place [] 1 0 root [] k (omega arith) (All-nil (IsDeep 2)) h).0 in absurd (omega arith))
no_child root (level ∷ levels) k h =
    let d : ℕ = suc (length levels) in
    let none = (last_place (laid_open root levels level.0) (suc d) d level.1 [] k (omega arith) (All-nil (IsDeep (suc (suc d)))) h).0 in
    absurd (omega arith)

pub depths-extents : (nodes : List (ℕ × Item)) → depths (extents nodes) ≡ depths nodes
depths-extents [] = refl
depths-extents (n ∷ nodes) = ap (λ z. n.0 ∷ z) (depths-extents nodes)

-- The last child of the innermost open node: its extent, the nodes before it and its descendants.
pub record LastChild (root : Ranged) (levels : List (Siblings × Ranged)) (row : Siblings) (place : ℕ) (x : Ranged) : Type 0 where
  pub before : Siblings
  pub kids : Siblings
  pub row_is : row ≡ beside before (Node x kids Empty)
  pub place_is : place ≡ length (laid_open root levels before)

pub last_child : (nodes : List (ℕ × Item)) (root : Ranged) (levels : List (Siblings × Ranged)) (row : Siblings) (place : ℕ) (y : Item)
    → extents nodes ≡ laid_open root levels row → IsLastAt (depths nodes) (suc (length levels)) place
    → option_map (λ (n : ℕ × Item). n.1) (slice_get nodes place) ≡ Some y → LastChild root levels row place (extent_of y)
unfolding laid
last_child nodes root levels row place y is last here =
    let d : ℕ = suc (length levels) in
    let at : IsLastAt (depths (laid_open root levels row)) d place = subst (λ z. IsLastAt z d place) (sym (depths-extents nodes) ∙ ap depths is) last in
    elim (last_of row) [
      | inl none ↦ absurd (no_child root levels place (subst (λ r. IsLastAt (depths (laid_open root levels r)) d place) none at))
      | inr (before, x, kids, row_is) ↦
          let front : List (ℕ × Ranged) = laid_open root levels before in
          let more : List (ℕ × Ranged) = laid (suc d) kids ++ [] in
          let split : laid_open root levels row ≡ front ++ (d, x) ∷ more =
          ap (laid_open root levels) row_is ∙ laid_open-beside root levels before (Node x kids Empty) in
          let deep = All-append (IsDeep (suc d)) (laid (suc d) kids) [] (laid-deep (suc d) kids) (All-nil (IsDeep (suc d))) in
          let there : place ≡ length front = (last_place front d d x more place (omega arith) deep (subst (λ z. IsLastAt (depths z) d place) split at)).1 in
          let (m, found, extent) = node_there nodes front (d, x) more place (is ∙ split) there in
          let same = same_Some m.1 y (sym (ap (option_map (λ (n : ℕ × Item). n.1)) found) ∙ here) in
          let named : extent_of y ≡ x = ap extent_of (sym same) ∙ ap (λ (z : ℕ × Ranged). z.1) extent in
          record {
            before = before;
            kids = kids;
            row_is = row_is ∙ ap (λ (z : Ranged). beside before (Node z kids Empty)) (sym named);
            place_is = there;
          }
    ]

-- the current node of a tree in order
pub current_child : (text : List ℕ) (f : Forest Item) (a : ℕ) (c : TreeIndex) (y : Item) → IsForest f → f.current ≡ Some c → item_at f c ≡ Some y
    → (h : IsOrderedTo text f a) → LastChild h.root h.levels h.row c.0 (extent_of y)
current_child text f a c y forest current here h = grind (arith, length-places, last_child)

-- a row one deeper or less deep
pub laid-deeper : (k : ℕ) (row : Siblings) → map deeper (laid k row) ≡ laid (suc k) row
unfolding laid
laid-deeper k Empty = refl
laid-deeper k (Node x kids next) =
    let one : k + 1 ≡ suc k = omega arith in
    cc (map-append deeper (laid (suc k) kids) (laid k next), laid-deeper (suc k) kids, laid-deeper k next)

pub laid-shallower : (k : ℕ) (row : Siblings) → map shallower (laid (suc k) row) ≡ laid k row
unfolding laid
laid-shallower k Empty = refl
laid-shallower k (Node x kids next) =
    let one : suc k - 1 ≡ k = omega arith in
    cc (map-append shallower (laid (suc (suc k)) kids) (laid (suc k) next), laid-shallower (suc k) kids, laid-shallower k next)

-- the extents of nodes at other depths
pub extents-mapped : (f : ℕ → ℕ) (nodes : List (ℕ × Item))
    → extents (map (λ (n : ℕ × Item). (f n.0, n.1)) nodes) ≡ map (λ (n : ℕ × Ranged). (f n.0, n.1)) (extents nodes)
extents-mapped f [] = refl
extents-mapped f (n ∷ nodes) = ap (λ (z : List (ℕ × Ranged)). (f n.0, extent_of n.1) ∷ z) (extents-mapped f nodes)

-- those from a place on one less deep
pub extents-moved : (front more : List (ℕ × Ranged)) (nodes : List (ℕ × Item)) → extents nodes ≡ front ++ more
    → extents (map_from shallower (length front) nodes) ≡ front ++ map shallower more
extents-moved [] more nodes is = extents-mapped (λ d. d - 1) nodes ∙ ap (map shallower) is
extents-moved (n ∷ front) more [] is = cc
extents-moved (n ∷ front) more (m ∷ nodes) is =
    (let rest : extents nodes ≡ front ++ more = cc in cc (extents-moved front more nodes rest))

-- the extents of the nodes before a place and from it on
pub extents-split : (nodes : List (ℕ × Item)) (front more : List (ℕ × Ranged)) (k : ℕ) → extents nodes ≡ front ++ more → k ≡ length front
    → (extents (take k nodes) ≡ front) × (extents (drop k nodes) ≡ more)
extents-split nodes front more k is at = (
  sym (take-map (λ n. (n.0, extent_of n.1)) k nodes) ∙ ap (take k) is ∙ ap (λ j. take j (front ++ more)) at ∙ take-append_seam front more,
  sym (drop-map (λ n. (n.0, extent_of n.1)) k nodes) ∙ ap (drop k) is ∙ ap (λ j. drop j (front ++ more)) at ∙ drop-append_seam front more,
)
