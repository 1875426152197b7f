-- Lists of depths: the last index of a depth, and open paths, after an edit.
use Rattle.std.proofs.Common.{◌≡◌, ℕ, ◌+◌, ◌-◌, ◌<◌, ◌≤◌, suc, zero, List, ◌∷◌, ◌++◌, length, get_or, take, drop, nat_lt, true, sym, ap, ◌∙◌, arith}
use Rattle.std.proofs.Common.{get_or-take, get_or-drop, length-take-le, length-drop, []}
use Rattle.first_pass_tree.proofs.Common.{TreeIndex, IsLastAt, IsOpenPath, IsPreorder, end_of, open_place, places, get_or_append_left, get_or_push, length_push}
use Rattle.first_pass_tree.proofs.Common.{nat_tests, cases_lt}
use Rattle.std.proofs.lemmas.List.Sums.{prefix_len_passes, prefix_len_stops}

-- of the last indices of two depths, that of the greater depth comes later
pub last-order : (ds : List ℕ) (d e i j : ℕ) → IsLastAt ds d i → IsLastAt ds e j → d < e → i < j
last-order ds d e i j h g l = grind (arith, h.depth, g.depth, g.following i, h.within, g.within)

-- the innermost open node is the last of its depth
pub open-last : (ds : List ℕ) (is : List TreeIndex) → IsOpenPath ds is → IsLastAt ds (length is) (open_place is)
open-last ds is h = grind arith

-- These depths are the same before an index, and from there on they are greater than one depth.
pub record IsEdit (ds es : List ℕ) (p d : ℕ) : Type 0 where
  pub within : p ≤ length ds
  pub there : p ≤ length es
  pub before : (k : ℕ) → k < p → get_or es k 0 ≡ get_or ds k 0
  pub following : (k : ℕ) → p ≤ k → k < length es → d < get_or es k 0

-- the last index of a depth before such an edit is still the last
pub last-edit : (ds es : List ℕ) (p d c i : ℕ) → IsEdit ds es p d → i < p → c ≤ d → IsLastAt ds c i → IsLastAt es c i
last-edit ds es p d c i e l m h = grind (arith, cases_lt)

pub path-edit : (ds es : List ℕ) (is : List TreeIndex) (p d : ℕ) → IsEdit ds es p d → open_place is < p → length is ≤ d → IsOpenPath ds is → IsOpenPath es is
path-edit ds es [] p d e l m h = last-edit ds es p d 0 0 e l (omega arith) h
path-edit ds es (i ∷ is) p d e l m h =
    let o = last-order ds _ _ _ i.0 (open-last ds is h.1) h.0 (omega arith) in
    (last-edit ds es p d _ i.0 e l (omega arith) h.0, path-edit ds es is p d e (omega arith) (omega arith) h.1)

pub append-edit : (ds : List ℕ) (d e : ℕ) → d < e → IsEdit ds (ds ++ e ∷ []) (length ds) d
append-edit ds d e l = grind (arith, length_push, get_or_append_left, places, get_or_push)

pub take-edit : (ds : List ℕ) (n d : ℕ) → n ≤ length ds → IsEdit ds (take n ds) n d
take-edit ds n d m = grind (arith, length-take-le, get_or-take)

pub last-push : (ds : List ℕ) (e : ℕ) → IsLastAt (ds ++ e ∷ []) e (length ds)
last-push ds e = grind (arith, length_push, get_or_push)

-- the last node is at least as deep as the innermost open node
pub path-last_depth : (ds : List ℕ) (is : List TreeIndex) → IsOpenPath ds is → (0 < length ds) × (length is ≤ get_or ds (length ds - 1) 0)
path-last_depth ds [] h = (omega (arith, h.within), omega arith)
path-last_depth ds (i ∷ is) h = (omega (arith, h.0.within), grind (arith, h.0.within, h.0.depth, h.0.following (length ds - 1)))

pub preorder-append : (ds : List ℕ) (e : ℕ) → IsPreorder ds → 0 < length ds → e ≤ get_or ds (length ds - 1) 0 + 1 → IsPreorder (ds ++ e ∷ [])
preorder-append ds e h p l = λ k q. grind (arith, places, length_push, get_or_push, h k)

pub preorder-take : (ds : List ℕ) (n : ℕ) → n ≤ length ds → IsPreorder ds → IsPreorder (take n ds)
preorder-take ds n m h = λ k q. grind (arith, places, length-take-le n ds m, get_or-take, h k)

-- the depth at an index is at most the index
pub depth-small : (ds : List ℕ) → IsPreorder ds → get_or ds 0 0 ≡ 0 → (k : ℕ) → k < length ds → get_or ds k 0 ≤ k
depth-small ds h z zero l = omega arith
depth-small ds h z (suc k) l = grind (arith, depth-small ds h z k (omega arith))

-- the nodes after a node, up to the end of its descendants, are deeper
pub before-end : (ds : List ℕ) (i k : ℕ) → i < k → k < end_of ds i → get_or ds i 0 < get_or ds k 0
before-end ds i k a b =
    let p = λ (d : ℕ). nat_lt (get_or ds i 0) d in
    let s = prefix_len_passes p (drop (i + 1) ds) (k - (i + 1)) 0 (omega arith) in
    let u = get_or-drop (i + 1) ds (k - (i + 1)) 0 in
    let x : i + 1 + (k - (i + 1)) ≡ k = omega arith in
    let y : nat_lt (get_or ds i 0) (get_or ds k 0) ≡ true =
    ap (λ z. nat_lt (get_or ds i 0) (get_or ds z 0)) (sym x) ∙ ap (nat_lt (get_or ds i 0)) (sym u) ∙ s in
    grind (arith, nat_tests, y)

-- the node at that end is not deeper
pub at-end : (ds : List ℕ) (i : ℕ) → i < length ds → end_of ds i < length ds → get_or ds (end_of ds i) 0 ≤ get_or ds i 0
at-end ds i l h = grind (arith, length-drop, prefix_len_stops, get_or-drop, nat_tests)
