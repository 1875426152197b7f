-- Siblings moved out of a list of depths.
use Rattle.std.proofs.Common.{◌≡◌, ◌≢◌, ℕ, ◌+◌, ◌-◌, ◌<◌, ◌≤◌, suc, zero, List, ◌∷◌, length, get_or, map, Some, true, false, Bool, eqb, cond, IfSome, IsSomeAnd}
use Rattle.std.proofs.Common.{Option, refl, sym, ◌∙◌, ap, subst, ⊎_elim, arith, []}
use Rattle.first_pass_tree.proofs.Common.{TreeIndex, Forest, IsForest, IsLastAt, IsPreorder, IsChildOfCurrent, CanMoveFrom, depths, map_from, shallower, end_of}
use Rattle.first_pass_tree.proofs.Common.{last_before, moved_from, length-map, nat_tests, cases_lt, cases_eq}
use Rattle.first_pass_tree.proofs.Depths.{IsEdit, path-edit, last-order, open-last, at-end}
use Rattle.first_pass_tree.proofs.Keeps.{run-within, map_from-length}

-- the depths from an index on, each decreased by one
lower-map : {T : Type 0} (ns : List (ℕ × T)) (k : ℕ) → get_or (depths (map shallower ns)) k 0 ≡ get_or (depths ns) k 0 - 1
lower-map [] k = omega arith
lower-map (n ∷ ns) zero = refl
lower-map (n ∷ ns) (suc k) = lower-map ns k

lower-before : {T : Type 0} (ns : List (ℕ × T)) (e k : ℕ) → k < e → get_or (depths (map_from shallower e ns)) k 0 ≡ get_or (depths ns) k 0
lower-before ns zero k l = absurd (omega arith)
lower-before [] (suc e) k l = refl
lower-before (n ∷ ns) (suc e) zero l = refl
lower-before (n ∷ ns) (suc e) (suc k) l = lower-before ns e k (omega arith)

lower-following : {T : Type 0} (ns : List (ℕ × T)) (e k : ℕ) → e ≤ k → get_or (depths (map_from shallower e ns)) k 0 ≡ get_or (depths ns) k 0 - 1
lower-following ns zero k l = lower-map ns k
lower-following [] (suc e) k l = omega arith
lower-following (n ∷ ns) (suc e) zero l = absurd (omega arith)
lower-following (n ∷ ns) (suc e) (suc k) l = lower-following ns e k (omega arith)

lower-length : {T : Type 0} (ns : List (ℕ × T)) (e : ℕ) → length (depths (map_from shallower e ns)) ≡ length (depths ns)
lower-length ns e = length-map (map_from shallower e ns) (λ n. n.0) ∙ map_from-length shallower e ns ∙ sym (length-map ns (λ n. n.0))

-- every node from the index on is at least two levels deeper
lower-edit : {T : Type 0} (ns : List (ℕ × T)) (d e : ℕ) → e ≤ length (depths ns)
    → ((k : ℕ) → e ≤ k → k < length (depths ns) → d + 2 ≤ get_or (depths ns) k 0) → IsEdit (depths ns) (depths (map_from shallower e ns)) e d
lower-edit ns d e m b = grind (arith, lower-length, lower-before, lower-following)

preorder-lower : {T : Type 0} (ns : List (ℕ × T)) (e m : ℕ)
    → 0 < e → IsPreorder (depths ns) → (e < length (depths ns) → get_or (depths ns) e 0 ≤ m) → m ≤ get_or (depths ns) (e - 1) 0 + 2
    → ((k : ℕ) → e ≤ k → k < length (depths ns) → 0 < get_or (depths ns) k 0) → IsPreorder (depths (map_from shallower e ns))
preorder-lower ns e m z h q r b = grind (arith, lower-length, lower-before, lower-following)

pub record IsLastBefore (ds : List ℕ) (d n r : ℕ) : Type 0 where
  pub within : r < n
  pub depth : get_or ds r 0 ≡ d
  pub following : (k : ℕ) → r < k → k < n → d < get_or ds k 0

-- the last index of a depth, if one index has it and every later depth is at least that
pub last_before-is : (ds : List ℕ) (d p n : ℕ)
    → p < n → get_or ds p 0 ≡ d → ((k : ℕ) → p < k → k < n → d ≤ get_or ds k 0) → IsLastBefore ds d n (last_before ds d n)
last_before-is ds d p zero l e h = absurd (omega arith)
last_before-is ds d p (suc n) l e h =
    ⊎_elim
    (λ q.
    let t : eqb (get_or ds n 0) d ≡ true = grind (arith, nat_tests) in
    let r : IsLastBefore ds d (suc n) n = record { within = omega arith; depth = q; following = λ k a b. absurd (omega arith) } in
    subst (λ (b : Bool). IsLastBefore ds d (suc n) (cond b n (last_before ds d n))) (sym t) r)
    (λ q.
    let t : eqb (get_or ds n 0) d ≡ false = grind (arith, nat_tests) in
    let x : p ≢ n = λ z. q (ap (λ i. get_or ds i 0) (sym z) ∙ e) in
    let w : p < n = omega arith in
    let i = last_before-is ds d p n w e (λ k a b. h k a (omega arith)) in
    let r : IsLastBefore ds d (suc n) (last_before ds d n) = record {
      within = omega (arith, i.within);
      depth = i.depth;
      following = λ k a b.
          ⊎_elim (λ y. let j = ap (λ i. get_or ds i 0) y in let o = h n (omega arith) (omega arith) in omega arith) (λ y. i.following k a (omega arith))
          (cases_eq k n);
    } in
    subst (λ (b : Bool). IsLastBefore ds d (suc n) (cond b n (last_before ds d n))) (sym t) r)
    (cases_eq (get_or ds n 0) d)

some-and : {P : TreeIndex → Type 0} (o : Option TreeIndex) → IsSomeAnd o P → (c : TreeIndex) × ((o ≡ Some c) × P c)
some-and o h = grind arith

-- the node directly before an index, after the last node of a depth, has at least that depth
before-place : (ds : List ℕ) (d c e : ℕ) → IsLastAt ds d c → c < e → e ≤ length ds → d ≤ get_or ds (e - 1) 0
before-place ds d c e h l w = grind (arith, cases_eq)

-- a current node before one index is before each later index
later : (o : Option TreeIndex) (i e : ℕ) → i ≤ e → IsSomeAnd o (λ c. c.0 < i) → IsSomeAnd o (λ c. c.0 < e)
later o i e l h = grind arith

pub moved_from-is : {T : Type 0} (f : Forest T) (e : ℕ) → CanMoveFrom f e → IsForest f → IsForest (moved_from f e)
moved_from-is f e g h =
    let ds = depths f.nodes in
    let ns = map_from shallower e f.nodes in
    let s = some-and f.current g.current in
    let c = s.0 in
    let lc = subst (λ (o : Option TreeIndex). IfSome o (λ c. IsLastAt ds (length f.spine + 1) c.0)) s.1.0 h.at_current in
    let w : c.0 < e = s.1.1 in
    let m = length-map f.nodes (λ n. n.0) in
    let o = last-order ds _ _ _ c.0 (open-last ds f.spine h.opened) lc (omega arith) in
    let v : e ≤ length ds = omega (arith, g.within) in
    let b = λ (k : ℕ) (x : e ≤ k) (y : k < length ds). lc.following k (omega arith) y in
    let q : e < length ds → get_or ds e 0 ≤ length f.spine + 2 = λ x. g.depth (omega arith) in
    let z = before-place ds (length f.spine + 1) c.0 e lc w v in
    let n = lower-length f.nodes e in
    let len = length-map ns (λ n. n.0) in
    let i = last_before-is (depths ns) (length f.spine + 1) c.0 (length ns) (omega (arith, lc.within)) (lower-before f.nodes e c.0 w ∙ lc.depth)
    (λ k x y. ⊎_elim
    (λ a. let j = lower-before f.nodes e k a in let u = lc.following k x (omega arith) in omega arith)
    (λ a. let j = lower-following f.nodes e k a in let u = lc.following k x (omega arith) in omega arith)
    (cases_lt k e)) in
    record {
      preorder = preorder-lower f.nodes e (length f.spine + 2) (omega arith) h.preorder q (omega arith) (λ k x y. let u = b k x y in omega arith);
      opened = path-edit ds _ f.spine e (length f.spine)
          (lower-edit f.nodes _ e v (λ k x y. let u = b k x y in omega arith)) (omega arith) (omega arith) h.opened;
      at_current = record { within = omega (arith, i.within); depth = i.depth; following = λ k x y. i.following k x (omega arith) };
    }

-- the same, from the results of the calls on the fields
pub moved-by : {T : Type 0} (f : Forest T) (e d r : ℕ) (ns : List (ℕ × T))
    → d ≡ length f.spine + 1 → ns ≡ map_from shallower e f.nodes → r ≡ last_before (depths ns) d (length ns)
    → record f { nodes = ns; current = Some (record { 0 = r }) } ≡ moved_from f e
moved-by f e d r ns ed en er = cc

-- the siblings after a child of the current node can be moved out
pub rest-moves : {T : Type 0} (f : Forest T) (ix : TreeIndex) → IsChildOfCurrent f ix → CanMoveFrom f (end_of (depths f.nodes) ix.0)
rest-moves f ix g = grind (arith, length-map, run-within, at-end, later)
