-- The children of a node cut at an offset: the result is a forest.
use Rattle.std.proofs.Common.{◌≡◌, ℕ, ◌+◌, ◌-◌, ◌≤◌, suc, zero, List, ◌∷◌, ◌++◌, length, take, drop, Some, None, true, false, nat_lt, if◌then◌else◌, get_or}
use Rattle.std.proofs.Common.{IfSome, Option, refl, sym, ◌∙◌, ap, subst, arith, take-take, take-append-drop, length-append, length-take-le, length-take}
use Rattle.std.proofs.Common.{length-drop, get_or-drop, []}
use Rattle.first_pass_tree.proofs.Common.{TreeIndex, Forest, IsForest, IsLastAt, IsOpenPath, IsPreorder, depths, cut_tokens, is_single_before, cut_siblings}
use Rattle.first_pass_tree.proofs.Common.{last_child, last_before, open_place, Item, drop-take, map-append, length-map, take-map, drop-map, nat_tests}
use Rattle.first_pass_tree.proofs.Depths.{preorder-take, path-edit, take-edit, open-last}
use Rattle.first_pass_tree.proofs.Moves.{last_before-is}

-- the cut keeps the depths of the remaining nodes
cut-depths : (e d : ℕ) (ns : List (ℕ × Item)) → depths (cut_tokens e d ns) ≡ take (length (cut_tokens e d ns)) (depths ns)
cut-depths e d [] = refl
cut-depths e d (n ∷ ns) = grind (arith, cut-depths e d ns)

pub cut-length : (e d : ℕ) (ns : List (ℕ × Item)) → length (cut_tokens e d ns) ≤ length ns
cut-length e d ns =
    let n = ap length (cut-depths e d ns) in
    omega (arith, length-take (length (cut_tokens e d ns)) (depths ns), length-map ns (λ n. n.0), length-map (cut_tokens e d ns) (λ n. n.0))

take-two : {X : Type 0} (xs : List X) (p m : ℕ) → take p xs ++ take m (drop p xs) ≡ take (p + m) xs
take-two xs p m =
    ap (λ ys. ys ++ take m (drop p xs)) (sym (take-take p (p + m) xs (omega arith))) ∙ ap (λ ys. take p (take (p + m) xs) ++ ys) (sym (drop-take p m xs))
    ∙ take-append-drop p (take (p + m) xs)

-- the current node after a cut is the last child: the first index after the innermost open node has its depth, and no
-- later index has less
last_child-is : (ns : List (ℕ × Item)) (is : List TreeIndex)
    → IsPreorder (depths ns) → IsOpenPath (depths ns) is → IfSome (last_child is ns) (λ c. IsLastAt (depths ns) (length is + 1) c.0)
last_child-is ns is pre path = grind (arith, open-last, length-map, last_before-is, nat_tests)

pub cut_siblings-is : (f : Forest Item) (e : ℕ) → IsForest f → IsForest (cut_siblings f e)
cut_siblings-is f e h =
    let ds = depths f.nodes in
    let p = open_place f.spine + 1 in
    let d = length f.spine + 1 in
    let cs = cut_tokens e d (drop p f.nodes) in
    let m = length-map f.nodes (λ n. n.0) in
    let o = open-last ds f.spine h.opened in
    let l : p ≤ length f.nodes = omega (arith, o.within) in
    let n : length (take p f.nodes ++ cs) ≡ p + length cs = omega (arith, length-append (take p f.nodes) cs, length-take-le p f.nodes l) in
    let v : p + length cs ≤ length ds = omega (arith, cut-length e d (drop p f.nodes), length-drop p f.nodes) in
    let a : depths (take p f.nodes ++ cs) ≡ take p ds ++ take (length cs) (drop p ds) =
    map-append (λ n. n.0) (take p f.nodes) cs ∙ ap (λ (x : List ℕ). x ++ depths cs) (sym (take-map (λ n. n.0) p f.nodes))
    ∙ ap (λ (x : List ℕ). take p ds ++ x) (cut-depths e d (drop p f.nodes) ∙ ap (take (length cs)) (sym (drop-map (λ n. n.0) p f.nodes))) in
    let b : depths (take p f.nodes ++ cs) ≡ take (length (take p f.nodes ++ cs)) ds = a ∙ take-two ds p (length cs) ∙ ap (λ k. take k ds) (sym n) in
    let w : length (take p f.nodes ++ cs) ≤ length ds = omega arith in
    let pre : IsPreorder (depths (take p f.nodes ++ cs)) = subst IsPreorder (sym b) (preorder-take ds _ w h.preorder) in
    let path : IsOpenPath (depths (take p f.nodes ++ cs)) f.spine =
    subst (λ (v : List ℕ). IsOpenPath v f.spine) (sym b)
    (path-edit ds _ f.spine _ _ (take-edit ds _ (length f.spine) w) (omega arith) (omega arith) h.opened) in
    record { preorder = pre; opened = path; at_current = last_child-is (take p f.nodes ++ cs) f.spine pre path }

-- the same, from the results of the calls on the fields
pub siblings-by : (f : Forest Item) (e p d : ℕ) (ns : List (ℕ × Item)) (cur : Option TreeIndex)
    → p ≡ open_place f.spine + 1 → d ≡ length f.spine + 1 → ns ≡ take p f.nodes ++ cut_tokens e d (drop p f.nodes)
    → cur ≡ (if nat_lt p (length ns) then Some (record { 0 = last_before (depths ns) d (length ns) }) else None)
    → record f { nodes = ns; current = cur } ≡ cut_siblings f e
siblings-by f e p d ns cur ep ed el ec = cc

-- no node, or more than one
pub single-other : (e : ℕ) (ns : List (ℕ × Item)) → (length ns ≡ 1 → ⊥) → is_single_before e ns ≡ false
single-other e ns h = grind arith

-- a last node that does not start before the offset
pub single-late : (e p : ℕ) (ns : List (ℕ × Item)) (d : ℕ × Item)
    → p + 1 ≡ length ns → nat_lt (get_or ns p d).1.start e ≡ false → is_single_before e (drop p ns) ≡ false
single-late e p [] d l h = absurd (omega arith)
single-late e zero (n ∷ []) d l h = rw h refl
single-late e zero (n ∷ m ∷ ns) d l h = refl
single-late e (suc p) (n ∷ ns) d l h = single-late e p ns d (omega arith) h

single-length : (e : ℕ) (ns : List (ℕ × Item)) → is_single_before e ns ≡ true → length ns ≡ 1
single-length e ns t = grind arith

-- a single token that ends before the cut is unchanged
single-uncut : (e d : ℕ) (ns : List (ℕ × Item)) → is_single_before e ns ≡ true → get_or (depths ns) 0 0 ≤ d → cut_tokens e d ns ≡ ns
single-uncut e d ns t l = grind (arith, nat_tests)

last_before-here : (ds : List ℕ) (d k n : ℕ) → n ≡ suc k → get_or ds k 0 ≡ d → last_before ds d n ≡ k
last_before-here ds d k n e h = grind (arith, nat_tests)

-- such a cut makes the token current, and changes no node
pub cut_siblings-single : (f : Forest Item) (e p : ℕ) → IsForest f → p ≡ open_place f.spine + 1 → is_single_before e (drop p f.nodes) ≡ true
    → record f { current = Some (record { 0 = p }) } ≡ cut_siblings f e
cut_siblings-single f e p h ep t =
    let ds = depths f.nodes in
    let d = length f.spine + 1 in
    let m = length-map f.nodes (λ n. n.0) in
    let o = open-last ds f.spine h.opened in
    let one : length f.nodes ≡ suc p = omega (arith, single-length e (drop p f.nodes) t, length-drop p f.nodes, o.within) in
    let at = ap (λ k. get_or ds k 0) ep in
    let deep : get_or ds p 0 ≡ d =
    omega (arith, at, o.depth, o.following p (omega arith) (omega arith), h.preorder (open_place f.spine) (omega arith)) in
    let z : p + 0 ≡ p = omega arith in
    let here = ap (λ xs. get_or xs 0 0) (sym (drop-map (λ n. n.0) p f.nodes)) ∙ get_or-drop p ds 0 0 ∙ ap (λ k. get_or ds k 0) z in
    let same = single-uncut e d (drop p f.nodes) t (omega arith) in
    let nodes = ap (λ (ns : List (ℕ × Item)). take p f.nodes ++ ns) same ∙ take-append-drop p f.nodes in
    let within : nat_lt p (length f.nodes) ≡ true = grind (arith, nat_tests) in
    siblings-by f e p d f.nodes _ ep refl (sym nodes) (rw (within, last_before-here ds d p (length f.nodes) one deep) refl)
