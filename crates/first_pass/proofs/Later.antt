-- What was read, up to another offset: one that is not before the last child of the innermost open node.
use Rattle.std.proofs.Common.{◌≡◌, inl, inr, ℕ, suc, ◌+◌, ◌≤◌, List, [], ◌∷◌, length, slice_get, Option, Some, None, IfSome, IsSomeAnd, refl, sym, ap, subst}
use Rattle.std.proofs.Common.{◌∙◌, arith, option_map, length-append}
use Rattle.first_pass_grammar.proofs.Common.{Item, TreeIndex, Forest, IsForest, item_at, open_place, Options, Ranged, extent_of, extents, Siblings, Empty, laid}
use Rattle.first_pass_grammar.proofs.Common.{Within, Elsewhere, InItem, InText, InFirst, below, beyond, IsLead, Fits, laid_open, AreAt, open_within, FitsOpen}
use Rattle.first_pass_grammar.proofs.Common.{IsOrderedTo}
use Rattle.first_pass.proofs.Common.{HasEndedBy, LastEndsBy, ordered_at_later, ordered_with, top_there, tree_closes, current_child}
use Rattle.first_pass_blocks.proofs.Common.{PassState, IsReadFrom, IsReadTo, ordered_none}
use Rattle.first_pass_grammar.specs.Order.{Node}
use Rattle.first_pass_grammar.proofs.Order.Orders.{beside, laid_open-level, length-extents}
use Rattle.first_pass_order.proofs.LeftOrder.{title_later}

-- no marker of a paragraph or heading is after its first sibling
lead_first : (text : List ℕ) (w : Within) (from : ℕ) (x : Ranged) → IsLead text (beyond w) from x → ⊥
lead_first text Elsewhere from x h = h
lead_first text InItem from x h = h
lead_first text (InText before) from x h = h
lead_first text (InFirst before) from x h = h

-- a row after its first sibling: its last node ends after its start
row_before : (text : List ℕ) (w : Within) (from to : ℕ) (before : Siblings) (x : Ranged) (kids : Siblings)
    → Fits text (beyond w) from to (beside before (Node x kids Empty)) → from ≤ x.«end»
unfolding Fits
row_before text w from to Empty x kids (inl (b, inside, room)) = (let f = b.following in let o = b.order in omega arith)
row_before text w from to Empty x kids (inr (lead, inside, room)) = absurd (lead_first text w from x lead)
row_before text w from to (Node y more before) x kids (inl (b, inside, rest)) =
    let last = row_before text (beyond w) y.«end» to before x kids rest in
    let f = b.following in
    let o = b.order in
    omega arith
row_before text w from to (Node y more before) x kids (inr (lead, inside, rest)) = absurd (lead_first text w from y lead)

-- a row also fits up to the end of its last node, and up to each offset after that
row_ended : (text : List ℕ) (w : Within) (from to at : ℕ) (before : Siblings) (x : Ranged) (kids : Siblings) → from ≤ at → x.«end» ≤ at
    → Fits text w from to (beside before (Node x kids Empty)) → Fits text w from at (beside before (Node x kids Empty))
unfolding Fits
row_ended text w from to at Empty x kids low ends (inl (b, inside, room)) =
    inl (record { following = b.following; order = b.order; before = ends; starts = b.starts; ends = b.ends }, inside, ends)
row_ended text w from to at Empty x kids low ends (inr (lead, inside, room)) = inr (lead, inside, low)
row_ended text w from to at (Node y more before) x kids low ends (inl (b, inside, rest)) =
    let last = row_before text w y.«end» to before x kids rest in
    let y_ends : y.«end» ≤ at = omega arith in
    inl (
      record { following = b.following; order = b.order; before = y_ends; starts = b.starts; ends = b.ends },
      inside,
      row_ended text (beyond w) y.«end» to at before x kids y_ends ends rest,
    )
row_ended text w from to at (Node y more before) x kids low ends (inr (lead, inside, rest)) =
    inr (lead, inside, row_ended text Elsewhere from to at before x kids low ends rest)

-- the innermost open node starts at or before an offset
abbrev StartsBy : ℕ → List (Siblings × Ranged) → Type 0
StartsBy at [] = Unit {0}
StartsBy at (level ∷ levels) = level.1.start ≤ at

-- the same in a tree with open nodes
open_ended : (text : List ℕ) (to at : ℕ) (levels : List (Siblings × Ranged)) (before : Siblings) (x : Ranged) (kids : Siblings) → StartsBy at levels
    → x.«end» ≤ at → FitsOpen text to levels (beside before (Node x kids Empty)) → FitsOpen text at levels (beside before (Node x kids Empty))
unfolding FitsOpen
open_ended text to at [] before x kids low ends h = row_ended text Elsewhere 0 to at before x kids (omega arith) ends h
open_ended text to at (level ∷ levels) before x kids low ends (from, after, h, starts, rest) =
    (from, after, row_ended text (below (open_within levels) from level.1) level.1.start to at before x kids low ends h, starts, rest)

open_empty : (text : List ℕ) (to at : ℕ) (levels : List (Siblings × Ranged)) → StartsBy at levels → FitsOpen text to levels Empty
    → FitsOpen text at levels Empty
unfolding FitsOpen Fits
open_empty text to at [] low h = omega arith
open_empty text to at (level ∷ levels) low (from, after, h, starts, rest) = (from, after, low, starts, rest)

-- where the innermost open node starts
starts_by : (nodes : List (ℕ × Item)) (root : Ranged) (levels : List (Siblings × Ranged)) (row : Siblings) (spine : List TreeIndex) (at : ℕ)
    → extents nodes ≡ laid_open root levels row → AreAt root levels spine
    → IfSome (slice_get spine 0) (λ ix. IfSome (option_map (λ (n : ℕ × Item). n.1) (slice_get nodes ix.0)) (λ x. x.start ≤ at)) → StartsBy at levels
starts_by nodes root [] row spine at is places h = tt
starts_by nodes root (level ∷ levels) row [] at is places h = absurd places
starts_by nodes root (level ∷ levels) row (ix ∷ spine) at is places h =
    let (m, here, extent) = top_there nodes root level levels row ix is places.0 in
    let start : m.1.start ≤ at = subst (λ (o : Option (ℕ × Item)). IfSome (option_map (λ (n : ℕ × Item). n.1) o) (λ x. x.start ≤ at)) here h in
    let same : m.1.start ≡ level.1.start = ap (λ (n : ℕ × Ranged). n.1.start) extent in
    omega arith

-- no node is below the innermost open node if that is the last one
row_empty : (d : ℕ) (row : Siblings) → length (laid d row) ≡ 0 → row ≡ Empty
unfolding laid
row_empty d Empty h = refl
row_empty d (Node x kids next) h = cc

childless : (nodes : List (ℕ × Item)) (root : Ranged) (levels : List (Siblings × Ranged)) (row : Siblings) (spine : List TreeIndex)
    → extents nodes ≡ laid_open root levels row → AreAt root levels spine → open_place spine + 1 ≡ length nodes → row ≡ Empty
unfolding laid_open
childless nodes root [] row [] is places last =
    let size = sym (length-extents nodes) ∙ ap length is in
    row_empty 1 row (omega arith)
childless nodes root [] row (ix ∷ spine) is places last = absurd places
childless nodes root (level ∷ levels) row [] is places last = absurd places
childless nodes root (level ∷ levels) row (ix ∷ spine) is places last =
    let front : List (ℕ × Ranged) = laid_open root levels level.0 in
    let d : ℕ = suc (suc (length levels)) in
    let size = sym (length-extents nodes) ∙ ap length (is ∙ laid_open-level root level levels row) in
    let parts = length-append front ((suc (length levels), level.1) ∷ laid d row) in
    let place = places.0 in
    row_empty d row (omega arith)

-- a tree in order, up to another offset
fits_by : (text : List ℕ) (f : Forest Item) (to at : ℕ) (o : Option TreeIndex) → f.current ≡ o → LastEndsBy f at o → IsForest f → (h : IsOrderedTo text f to)
    → StartsBy at h.levels → FitsOpen text at h.levels h.row
fits_by text f to at None current last forest h low =
    let none = childless f.nodes h.root h.levels h.row f.spine h.nodes h.places last in
    subst (FitsOpen text at h.levels) (sym none) (open_empty text to at h.levels low (subst (FitsOpen text to h.levels) none h.fits))
fits_by text f to at (Some c) current last forest h low = last_by (item_at f c) refl last
  where
    last_by : (o : Option Item) → item_at f c ≡ o → IsSomeAnd o (λ x. x.«end» ≤ at) → FitsOpen text at h.levels h.row
    last_by None is ends = absurd ends
    last_by (Some x) is ends =
        let child = current_child text f to c x forest current is h in
        subst (FitsOpen text at h.levels) (sym child.row_is)
        (open_ended text to at h.levels child.before (extent_of x) child.kids low ends (subst (FitsOpen text to h.levels) child.row_is h.fits))

pub ordered_by : (text : List ℕ) (f : Forest Item) (to at : ℕ) → IsForest f → HasEndedBy f at → at ≤ length text → IsOrderedTo text f to
    → IsOrderedTo text f at
ordered_by text f to at forest ended within h =
    let low = starts_by f.nodes h.root h.levels h.row f.spine at h.nodes h.places ended.start in
    ordered_with text f f to at h h.row h.nodes refl (fits_by text f to at f.current refl ended.last forest h low) within

-- a state, up to a later offset
pub read_later : (text : List ℕ) (r : PassState) (from at : ℕ) → from ≤ at → at ≤ length text → IsReadTo text r from → IsReadTo text r at
read_later text r from at low within h = (
  ordered_at_later text r from at low within h.0,
  record { nested = h.1.nested; last = h.1.last; title = title_later text r.tree from at low h.1.title },
)

-- also after an HTML block before a blank line, if that block has ended
pub read_ended : (options : Options) (text : List ℕ) (r : PassState) (from at : ℕ) → IsForest r.tree → IsReadFrom options text r from → from ≤ at
    → at ≤ length text → HasEndedBy r.tree at → IsReadTo text r at
read_ended options text r from at forest (inl h) low within ended = read_later text r from at low within h
read_ended options text r from at forest (inr h) low within ended =
    (ordered_none text r at h.0.none within (ordered_by text r.tree _ at forest ended within h.0.ordered), tree_closes text r.tree at h.1 h.2)
