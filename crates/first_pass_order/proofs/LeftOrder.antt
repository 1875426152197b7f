-- Order when a definition list is closed before its last child, which is moved out of it.
use Rattle.std.proofs.Common.{◌≡◌, ℕ, zero, suc, ◌<◌, ◌≤◌, false, List, [], ◌∷◌, ◌++◌, length, take, drop, slice_get, None, IsCharBoundary, refl, sym, ap, ◌∙◌}
use Rattle.std.proofs.Common.{arith, take-append-drop, length-take-le, option_map}
use Rattle.first_pass_grammar.proofs.Common.{slice_get_within, option_map_or, Item, TreeIndex, Forest, modify, Ranged, extents, Siblings, laid, Elsewhere, Fits}
use Rattle.first_pass_grammar.proofs.Common.{within_top, IsOrderedTo, length-modify}
use Rattle.first_pass_order.proofs.Common.{PassState, closed_by, EndsBeforeTitle, IsOrderedAt}
use Rattle.first_pass_grammar.proofs.Order.Orders.{extents-append, length-extents, fits-any, fits-later}
use Rattle.first_pass_order.proofs.RowSplits.{laid-shallower, extents-moved}
use Rattle.first_pass_lists.specs.Closing.{state_with, top_end}
use Rattle.first_pass_order.proofs.OrderLemmas.{ordered_more, ordered_closed, ordered_same, ordered_later, ordered_begun, top_there, inner}
use Rattle.first_pass_order.proofs.AlikeNodes.{AreAlike, NoNodes, OneMore}
use Rattle.first_pass_order.proofs.PropertyKept.{IsLeft, Property, MayLeave, HoldsAt, HoldsBefore}

pub modify-front : {T : Type 0} (nodes more : List (ℕ × T)) (k : ℕ) (g : T → T) → k < length nodes → modify (nodes ++ more) k g ≡ modify nodes k g ++ more
modify-front [] more k g low = absurd (omega arith)
modify-front (n ∷ nodes) more zero g low = refl
modify-front (n ∷ nodes) more (suc k) g low = ap (λ z. n ∷ z) (modify-front nodes more k g (omega arith))

pub end_there : (nodes : List (ℕ × Item)) (k e : ℕ) → k < length nodes
    → option_map_or (λ x. x.«end») (option_map (λ n. n.1) (slice_get (modify nodes k (λ x. record x { «end» = e })) k)) 0 ≡ e
end_there [] k e low = absurd (omega arith)
end_there (n ∷ nodes) zero e low = refl
end_there (n ∷ nodes) (suc k) e low = end_there nodes k e (omega arith)

-- the innermost open node is among the nodes
open_there : (text : List ℕ) (f : Forest Item) (a : ℕ) (ix : TreeIndex) (rest : List TreeIndex) → f.spine ≡ ix ∷ rest → IsOrderedTo text f a
    → ix.0 < length f.nodes
open_there text f a ix rest spine h =
    let l = inner text f a ix rest spine h in
    let (m, here, extent) = top_there f.nodes l.root l.level l.levels l.row ix l.nodes l.place in
    slice_get_within f.nodes ix.0 m here

pub extents_alike : (old new : List (ℕ × Item)) → AreAlike old new → extents new ≡ extents old
extents_alike old new NoNodes = refl
extents_alike old new (OneMore n m xs ys a h) = grind (arith, extents_alike xs ys h)

-- The node at a place is the last child of the innermost open node. The nodes before it are in order up to an offset,
-- and the child and its descendants lie between that and another offset.
pub record EndsAt (text : List ℕ) (f : Forest Item) (e at place : ℕ) : Type 0 where
  pub before : IsOrderedTo text (record f { nodes = take place f.nodes }) e
  pub ends : IsCharBoundary text e
  pub row : Siblings
  pub last : extents (drop place f.nodes) ≡ laid (suc (length f.spine)) row
  pub fits : Fits text Elsewhere e at row

-- so it is after the nodes that are closed at the first of these
pub left_ordered : (text : List ℕ) (f g : Forest Item) (at e : ℕ) (c : TreeIndex) → IsLeft f g e c → EndsAt text f e at c.0 → at ≤ length text
    → IsOrderedTo text g at
left_ordered text f g at e c l h within =
    let ix : TreeIndex = l.list in
    let rest : List TreeIndex = l.rest in
    let to : Item → Item = λ x. record x { «end» = e } in
    let old : Forest Item = record f { nodes = take c.0 f.nodes } in
    let more : List (ℕ × Item) = drop c.0 f.nodes in
    let shut : Forest Item = closed_by old e (ix ∷ rest) in
    let front : List (ℕ × Ranged) = extents shut.nodes in
    let deep : suc (length f.spine) ≡ suc (suc (length rest)) = ap (λ (s : List TreeIndex). suc (length s)) l.spine in
    let at_front : c.0 ≡ length front =
    omega (arith, length-extents shut.nodes, length-modify old.nodes ix.0 to, length-take-le c.0 f.nodes l.within) in
    let split : modify f.nodes ix.0 to ≡ shut.nodes ++ more =
    ap (λ (z : List (ℕ × Item)). modify z ix.0 to) (sym (take-append-drop c.0 f.nodes))
    ∙ modify-front old.nodes more ix.0 to (open_there text old e ix rest l.spine h.before) in
    let closed : extents l.mid ≡ front ++ laid (suc (suc (length rest))) h.row =
    cc (extents_alike _ l.mid l.alike, extents-append shut.nodes more, h.last) in
    ordered_more text shut g e at h.row
    (cc (l.nodes, extents-moved front (laid (suc (suc (length rest))) h.row) l.mid closed, laid-shallower (suc (length rest)) h.row))
    l.outer (fits-any text (within_top shut) e at h.row h.fits) within
    (ordered_closed text old e e ix rest l.spine (omega arith) h.before.within h.ends h.before)

abbrev pub order_kept : List ℕ → Property
order_kept text = record {
  Holds = λ a k f. IsOrderedTo text f a;
  Goes = λ a b. (a ≤ b) × (b ≤ length text);
  Bounds = λ e. IsCharBoundary text e;
  MovesOut = λ a e f c. EndsAt text f e a c.0;
  Opens = λ b. Unit {0};
  more = λ a k f h. h;
  later = λ a b k f goes h. ordered_later text f a b goes.0 goes.1 h;
  like = λ a k f g l h. ordered_same text f g a (extents_alike f.nodes g.nodes l.nodes) l.spine h;
  closed = λ a e k f ix rest spine goes ends h. ordered_closed text f a e ix rest spine goes.0 goes.1 ends h;
  left = λ a e k f g c l leaves h. left_ordered text f g a e c l leaves h.within;
  opened = λ a start k f body goes ends opens h. ordered_begun text (state_with f None false) a start body goes.0 goes.1 ends h;
}

pub may_leave : (text : List ℕ) (f : Forest Item) (at : ℕ) → EndsBeforeTitle text f at → MayLeave (order_kept text) at f
may_leave text f at h title is = (let l = h title is in record { before = l.before; ends = l.ends; row = l.row; last = l.last; fits = l.fits })

-- so is the state
pub ordered_at : (text : List ℕ) (r : PassState) (at : ℕ) → IsOrderedAt text r at → HoldsAt (order_kept text) at 0 r
ordered_at text r at h = grind arith

pub ordered_before : (text : List ℕ) (r : PassState) (at : ℕ) → IsOrderedAt text r at → EndsBeforeTitle text r.tree at → HoldsBefore (order_kept text) at 0 r
ordered_before text r at h closes = record { held = ordered_at text r at h; leaves = may_leave text r.tree at closes }

-- up to a later offset
pub title_later : (text : List ℕ) (f : Forest Item) (a b : ℕ) → a ≤ b → EndsBeforeTitle text f a → EndsBeforeTitle text f b
title_later text f a b later h title is =
    let l = h title is in
    record { before = l.before; ends = l.ends; row = l.row; last = l.last; fits = fits-later text Elsewhere (top_end f) a b l.row later l.fits }
