-- Siblings and their ranges while nodes are added, opened and closed.
use Rattle.std.proofs.Common.{◌≡◌, inl, inr, ℕ, zero, suc, ◌+◌, ◌-◌, ◌*◌, ◌<◌, ◌≤◌, Bool, true, false, if◌then◌else◌, List, ◌∷◌, ◌++◌, length, Some, None}
use Rattle.std.proofs.Common.{IsCharBoundary, refl, sym, ap, ◌∙◌, arith, append_assoc, append-nil, nat_le, []}
use Rattle.first_pass_grammar.proofs.Common.{map-append, length-map, Item, ItemBody, TreeIndex, modify, at_depth, body_at, block_of, at_depth-append}
use Rattle.first_pass_grammar.proofs.Common.{AreInOrder, leaves, order_bound, Ranged, extent_of, extents, Siblings, Empty, laid, IsBetween, Within, Elsewhere}
use Rattle.first_pass_grammar.proofs.Common.{InItem, InText, InFirst, below, beyond, IsLead, Fits, FitsBetween, laid_open, AreAt, open_within, FitsOpen}
use Rattle.first_pass_grammar.proofs.Common.{false≢true, nat_tests, modify-at}
use Rattle.first_pass_grammar.specs.Order.{Node}
use Rattle.first_pass_grammar.proofs.Count.CountedNodes.{own_at_most}
use Rattle.first_pass_tokens.proofs.ChainLemmas.{length-leaves}

-- siblings, and others after them
abbrev pub beside : Siblings → Siblings → Siblings
beside Empty more = more
beside (Node x kids next) more = Node x kids (beside next more)

-- a range with another end
abbrev pub ended_at : Ranged → ℕ → Ranged
ended_at x e = record { start = x.start; «end» = e; text_block = x.text_block; marker = x.marker; item = x.item; definitions = x.definitions }

-- the extents of more nodes
pub extents-append : (nodes more : List (ℕ × Item)) → extents (nodes ++ more) ≡ extents nodes ++ extents more
extents-append nodes more = map-append (λ n. (n.0, extent_of n.1)) nodes more

-- there are as many extents as nodes
pub length-extents : (nodes : List (ℕ × Item)) → length (extents nodes) ≡ length nodes
length-extents nodes = length-map nodes (λ n. (n.0, extent_of n.1))

-- the extents of a block that is put at a depth
pub extents-at_depth : (d : ℕ) (items : List (ℕ × Item)) → extents (at_depth d items) ≡ at_depth d (extents items)
extents-at_depth d [] = refl
extents-at_depth d (n ∷ items) = ap (λ (z : List (ℕ × Ranged)). (d + n.0, extent_of n.1) ∷ z) (extents-at_depth d items)

-- siblings and others after them, in reading order
pub laid-beside : (depth : ℕ) (row more : Siblings) → laid depth (beside row more) ≡ laid depth row ++ laid depth more
unfolding laid
laid-beside depth Empty more = refl
laid-beside depth (Node x kids next) more = rw (laid-beside depth next more, append_assoc)

-- siblings at another depth
pub laid-at_depth : (d k : ℕ) (row : Siblings) → at_depth d (laid k row) ≡ laid (d + k) row
unfolding laid
laid-at_depth d k Empty = refl
laid-at_depth d k (Node x kids next) = grind (arith, at_depth-append, laid-at_depth d (suc k) kids, laid-at_depth d k next)

-- a single sibling
pub laid-one : (depth : ℕ) (x : Ranged) → laid depth (Node x Empty Empty) ≡ (depth, x) ∷ []
unfolding laid
laid-one depth x = refl

-- more nodes in the innermost open node
pub laid_open-beside : (root : Ranged) (levels : List (Siblings × Ranged)) (row more : Siblings)
    → laid_open root levels (beside row more) ≡ laid_open root levels row ++ laid (suc (length levels)) more
unfolding laid_open
laid_open-beside root [] row more = ap (λ (z : List (ℕ × Ranged)). (0, root) ∷ z) (laid-beside 1 row more)
laid_open-beside root (level ∷ levels) row more = rw (laid-beside (suc (suc (length levels))) row more, append_assoc)

-- a node that is opened
pub laid_open-pushed : (root x : Ranged) (levels : List (Siblings × Ranged)) (row : Siblings)
    → laid_open root ((row, x) ∷ levels) Empty ≡ laid_open root levels row ++ (suc (length levels), x) ∷ []
unfolding laid_open laid
laid_open-pushed root x levels row = refl

-- the innermost open node
pub laid_open-level : (root : Ranged) (level : Siblings × Ranged) (levels : List (Siblings × Ranged)) (row : Siblings)
    → laid_open root (level ∷ levels) row ≡ laid_open root levels level.0 ++ (suc (length levels), level.1) ∷ laid (suc (suc (length levels))) row
unfolding laid_open
laid_open-level root level levels row = refl

-- the innermost open node, after it is closed
pub laid_open-popped : (root x : Ranged) (levels : List (Siblings × Ranged)) (before row : Siblings)
    → laid_open root levels (beside before (Node x row Empty)) ≡ laid_open root levels before ++ (suc (length levels), x) ∷ laid (suc (suc (length levels))) row
unfolding laid
laid_open-popped root x levels before row = grind (arith, laid_open-beside, append-nil)

-- the root with the nodes below it, if no other node is open
pub laid_open-root : (root : Ranged) (row : Siblings) → laid_open root [] row ≡ laid 0 (Node root row Empty)
unfolding laid_open laid
laid_open-root root row = ap (λ (z : List (ℕ × Ranged)). (0, root) ∷ z) (sym (append-nil (laid 1 row)))

-- there are as many open nodes as places for them
pub length-places : (root : Ranged) (levels : List (Siblings × Ranged)) (spine : List TreeIndex) → AreAt root levels spine → length spine ≡ length levels
length-places root [] [] h = refl
length-places root (level ∷ levels) (ix ∷ spine) h = ap suc (length-places root levels spine h.1)
length-places root levels spine h = absurd h

-- if siblings fit between two offsets, these are in order
pub fits-order : (text : List ℕ) (w : Within) (from to : ℕ) (row : Siblings) → Fits text w from to row → from ≤ to
unfolding Fits
fits-order text w from to Empty h = h
fits-order text w from to (Node x kids next) (inl (b, k, n)) = grind (arith, fits-order text (beyond w) x.«end» to next n)
fits-order text w from to (Node x kids next) (inr (l, k, n)) = fits-order text Elsewhere from to next n

between-later : (text : List ℕ) (from a b : ℕ) (x : Ranged) → a ≤ b → IsBetween text from a x → IsBetween text from b x
between-later text from a b x more h = grind arith

between-earlier : (text : List ℕ) (a b to : ℕ) (x : Ranged) → a ≤ b → IsBetween text b to x → IsBetween text a to x
between-earlier text a b to x more h = grind arith

-- siblings fit up to a later offset
pub fits-later : (text : List ℕ) (w : Within) (from a b : ℕ) (row : Siblings) → a ≤ b → Fits text w from a row → Fits text w from b row
unfolding Fits
fits-later text w from a b Empty more h = let t : from ≤ a = h in omega arith
fits-later text w from a b (Node x kids next) more (inl (h, k, n)) = grind (arith, between-later, fits-later text (beyond w) x.«end» a b next more n)
fits-later text w from a b (Node x kids next) more (inr (l, k, n)) = inr (l, k, fits-later text Elsewhere from a b next more n)

-- what may be in the first place may be in the second: a task list item marker that may start from an offset on may do
-- so from an earlier one
abbrev is_wider : Within → Within → Bool
is_wider Elsewhere v = true
is_wider InItem InItem = true
is_wider (InText b) (InText a) = nat_le a b
is_wider (InFirst b) (InFirst a) = nat_le a b
is_wider _ _ = false

-- a wider place stays wider below a node
wider_below : (w v : Within) (a b : ℕ) (x : Ranged) → a ≤ b → is_wider w v ≡ true → is_wider (below w b x) (below v a x) ≡ true
wider_below w v a b x more h = grind (arith, nat_tests)

-- and after it
wider_beyond : (w v : Within) → is_wider w v ≡ true → is_wider (beyond w) (beyond v) ≡ true
wider_beyond w v h = grind (arith, nat_tests)

-- a task list item marker that may be first in a place may be first in a wider one
wider_lead : (text : List ℕ) (w v : Within) (from : ℕ) (x : Ranged) → is_wider w v ≡ true → IsLead text w from x → IsLead text v from x
wider_lead text w v from x h lead = grind (arith, between-earlier, false≢true)

-- siblings that fit in a place also fit in a wider one
fits-wider : (text : List ℕ) (w v : Within) (from to : ℕ) (row : Siblings) → is_wider w v ≡ true → Fits text w from to row → Fits text v from to row
unfolding Fits
fits-wider text w v from to Empty wide h = h
fits-wider text w v from to (Node x kids next) wide (inl (b, k, n)) =
    inl (
      b,
      fits-wider text (below w from x) (below v from x) x.start x.«end» kids (wider_below w v from from x (omega arith) wide) k,
      fits-wider text (beyond w) (beyond v) x.«end» to next (wider_beyond w v wide) n,
    )
fits-wider text w v from to (Node x kids next) wide (inr (l, k, n)) = inr (wider_lead text w v from x wide l, k, n)

-- siblings that fit elsewhere fit anywhere
pub fits-any : (text : List ℕ) (w : Within) (from to : ℕ) (row : Siblings) → Fits text Elsewhere from to row → Fits text w from to row
fits-any text w from to row h = fits-wider text Elsewhere w from to row refl h

fits-beyond : (text : List ℕ) (w : Within) (from to : ℕ) (row : Siblings) → Fits text (beyond w) from to row → Fits text w from to row
fits-beyond text w from to row h = fits-wider text (beyond w) w from to row (grind (arith, nat_tests)) h

beyond-again : (text : List ℕ) (w : Within) (from to : ℕ) (row : Siblings) → Fits text (beyond w) from to row → Fits text (beyond (beyond w)) from to row
beyond-again text w from to row h = fits-wider text (beyond w) (beyond (beyond w)) from to row (grind (arith, nat_tests)) h

following-lead : (text : List ℕ) (w : Within) (at from to : ℕ) (x : Ranged) (row : Siblings)
    → IsLead text w at x → Fits text (beyond w) from to row → Fits text Elsewhere from to row
following-lead text w at from to x row l h = grind arith

earlier_by : (text : List ℕ) (w : Within) (a b to : ℕ) (row : Siblings) → is_wider w w ≡ true
    → ((x : Ranged) → IsLead text w b x → ⊥) → a ≤ b → Fits text w b to row → Fits text w a to row
unfolding Fits
earlier_by text w a b to Empty wide none more h = let t : b ≤ to = h in omega arith
earlier_by text w a b to (Node x kids next) wide none more (inl (h, k, n)) =
    inl (
      between-earlier text a b to x more h,
      fits-wider text (below w b x) (below w a x) x.start x.«end» kids (wider_below w w a b x more wide) k,
      n,
    )
earlier_by text w a b to (Node x kids next) wide none more (inr (l, k, n)) = absurd (none x l)

-- siblings fit from an earlier offset on
fits-earlier : (text : List ℕ) (w : Within) (a b to : ℕ) (row : Siblings) → a ≤ b → Fits text (beyond w) b to row → Fits text (beyond w) a to row
fits-earlier text w a b to row more h = grind (arith, earlier_by)

-- siblings fit after others
pub fits-beside : (text : List ℕ) (w : Within) (from mid to : ℕ) (row more : Siblings)
    → Fits text w from mid row → Fits text (beyond w) mid to more → Fits text w from to (beside row more)
unfolding Fits
fits-beside text w from mid to Empty more h following = grind (arith, fits-beyond, fits-earlier)
fits-beside text w from mid to (Node x kids next) more (inl (h, k, n)) following =
    grind (arith, between-later, fits-order, beyond-again, fits-beside text (beyond w) x.«end» mid to next more n (beyond-again text w mid to more following))
fits-beside text w from mid to (Node x kids next) more (inr (l, k, n)) following =
    inr (l, k, fits-beside text Elsewhere from mid to next more n (following-lead text w from mid to x more l following))

-- a single sibling fits
pub fits-one : (text : List ℕ) (w : Within) (from to : ℕ) (x : Ranged) → IsBetween text from to x → Fits text w from to (Node x Empty Empty)
unfolding Fits
fits-one text w from to x h = inl (h, h.order, h.before)

-- open nodes are in order up to a later offset
pub fits_open-later : (text : List ℕ) (a b : ℕ) (levels : List (Siblings × Ranged)) (row : Siblings) → a ≤ b → FitsOpen text a levels row
    → FitsOpen text b levels row
unfolding FitsOpen
fits_open-later text a b [] row more h = fits-later text Elsewhere 0 a b row more h
fits_open-later text a b (level ∷ levels) row more (before, m, h, starts, rest) =
    (before, m, fits-later text (below (open_within levels) before level.1) level.1.start a b row more h, starts, rest)

-- below an item or elsewhere, and so also after a node below any node
beyond_below : (w : Within) (before : ℕ) (x : Ranged) → is_wider (if x.item then InItem else Elsewhere) (beyond (below w before x)) ≡ true
beyond_below w before x = grind (arith, nat_tests)

-- more nodes in the innermost open node fit
pub fits_open-beside : (text : List ℕ) (mid to : ℕ) (levels : List (Siblings × Ranged)) (row more : Siblings)
    → FitsOpen text mid levels row → Fits text (open_within levels) mid to more → FitsOpen text to levels (beside row more)
unfolding FitsOpen
fits_open-beside text mid to levels row more h following = grind (arith, fits-beside, fits-wider, beyond_below)

-- a node that is opened fits
pub fits_open-pushed : (text : List ℕ) (a : ℕ) (x : Ranged) (levels : List (Siblings × Ranged)) (row : Siblings)
    → a ≤ x.start → IsCharBoundary text x.start → FitsOpen text a levels row → FitsOpen text x.start ((row, x) ∷ levels) Empty
unfolding FitsOpen Fits
fits_open-pushed text a x levels row more starts h = let t : x.start ≤ x.start = omega arith in (a, more, t, starts, h)

-- another end does not change what may be below a node
pub below_ended : (w : Within) (before : ℕ) (x : Ranged) (e : ℕ) → below w before (ended_at x e) ≡ below w before x
below_ended w before x e = grind arith

-- the innermost open node fits after it is closed
pub fits_open-popped : (text : List ℕ) (at e : ℕ) (level : Siblings × Ranged) (levels : List (Siblings × Ranged)) (row : Siblings)
    → at ≤ e → IsCharBoundary text e → FitsOpen text at (level ∷ levels) row
    → FitsOpen text e levels (beside level.0 (Node (ended_at level.1 e) row Empty))
unfolding FitsOpen Fits
fits_open-popped text at e level levels row more ends (before, m, h, starts, rest) = grind (arith, fits-later, fits-order, fits_open-beside, below_ended)

-- the extent of a node gets another end
extents-modify : (nodes : List (ℕ × Item)) (k e : ℕ)
    → extents (modify nodes k (λ x. record x { «end» = e })) ≡ modify (extents nodes) k (λ x. ended_at x e)
extents-modify [] k e = refl
extents-modify (n ∷ nodes) zero e = refl
extents-modify (n ∷ nodes) (suc k) e = ap (λ z. (n.0, extent_of n.1) ∷ z) (extents-modify nodes k e)

pub extents-ended : (nodes : List (ℕ × Item)) (before : List (ℕ × Ranged)) (n : ℕ × Ranged) (more : List (ℕ × Ranged)) (k e : ℕ)
    → extents nodes ≡ before ++ n ∷ more → k ≡ length before
    → extents (modify nodes k (λ x. record x { «end» = e })) ≡ before ++ (n.0, ended_at n.1 e) ∷ more
extents-ended nodes before n more k e is at = grind (arith, extents-modify, modify, modify-at)

-- a change at a place that keeps the extent
pub extents-kept : (nodes : List (ℕ × Item)) (k : ℕ) (g : Item → Item) (b : ItemBody)
    → body_at nodes k ≡ Some b → ((x : Item) → x.body ≡ b → extent_of (g x) ≡ extent_of x) → extents (modify nodes k g) ≡ extents nodes
extents-kept [] k g b is same = refl
extents-kept (n ∷ nodes) zero g b is same = (let e : n.1.body ≡ b = cc in ap (λ (x : Ranged). (n.0, x) ∷ extents nodes) (same n.1 e))
extents-kept (n ∷ nodes) (suc k) g b is same = ap (λ (z : List (ℕ × Ranged)). (n.0, extent_of n.1) ∷ z) (extents-kept nodes k g b is same)

-- if only the root is open, the whole tree is in order
pub fits-whole : (text : List ℕ) (root : Ranged) (to : ℕ) (row : Siblings)
    → IsBetween text 0 (length text) root → root.start ≡ 0 → root.«end» ≡ length text → to ≤ length text → FitsOpen text to [] row
    → Fits text Elsewhere 0 (length text) (Node root row Empty)
unfolding FitsOpen Fits
fits-whole text root to row whole start_is end_is within h = grind (arith, fits-later, fits-any)

-- items side by side with nothing below them
unfoldable pub row_of : List Item → Siblings
row_of [] = Empty
row_of (x ∷ xs) = Node (extent_of x) Empty (row_of xs)

-- leaves side by side in reading order; they are in order
pub row_of-laid : (k : ℕ) (chain : List Item) → extents (at_depth k (leaves chain)) ≡ laid k (row_of chain)
unfolding laid row_of
row_of-laid k [] = refl
row_of-laid k (x ∷ xs) = grind (arith, row_of-laid k xs)

pub row_of-fits : (text : List ℕ) (w : Within) (from to : ℕ) (chain : List Item) → AreInOrder text from to chain → Fits text w from to (row_of chain)
unfolding Fits row_of
row_of-fits text w from to [] h = h
row_of-fits text w from to (x ∷ xs) h = grind (arith, order_bound, row_of-fits text (beyond w) x.«end» to xs h.4)

-- a block that fits elsewhere fits anywhere
pub between-any : (text : List ℕ) (w : Within) (from to : ℕ) (items : List (ℕ × Item))
    → FitsBetween text Elsewhere from to items → FitsBetween text w from to items
between-any text w from to items (row, is, fits, node_bound) = (row, is, fits-any text w from to row fits, node_bound)

-- a block with a chain has one more item than the chain
pub length-block : (x : Item) (chain : List Item) → length (block_of x (leaves chain)) ≡ suc (length chain)
length-block x chain = ap suc (length-leaves 1 chain)

-- A block with a chain lies between two offsets if its item does and the chain is in order within that; it has few
-- items if the chain has few.
pub block_fits : (text : List ℕ) (w : Within) (from to : ℕ) (x : Item) (chain : List Item)
    → IsBetween text from to (extent_of x) → AreInOrder text x.start x.«end» chain → (from < to → suc (length chain) ≤ 4 * (to - from))
    → FitsBetween text w from to (block_of x (leaves chain))
unfolding laid Fits
block_fits text w from to x chain between order node_bound = (
  Node (extent_of x) (row_of chain) Empty,
  ap (λ (ns : List (ℕ × Ranged)). (0, extent_of x) ∷ ns) (row_of-laid 1 chain ∙ sym (append-nil (laid 1 (row_of chain)))),
  inl (between, row_of-fits text (below w from (extent_of x)) x.start x.«end» chain order, between.before),
  λ apart. (let some = node_bound apart in let size = length-block x chain in let most = own_at_most None (block_of x (leaves chain)) in omega arith),
)
