-- The recorded subtrees, after some are removed and after the depths of the tree change.
use Rattle.std.proofs.Common.{◌≡◌, ℕ, ◌+◌, ◌<◌, ◌≤◌, ◌==◌, true, suc, zero, List, ◌∷◌, ◌++◌, length, get_or, set, take, reverse, IfSome, Option, Some, refl}
use Rattle.std.proofs.Common.{sym, ◌∙◌, ap, subst, arith, take_all, length-set, length-append, length-take-le, take-take, get_or-take, []}
use Rattle.first_pass_tree.proofs.Common.{TreeIndex, Forest, IsForest, IsLastAt, depths, map_from, reverse-append, length-reverse, take_more_set, length-map}
use Rattle.first_pass_tree.proofs.Common.{take-append-le, take-map, nat_tests}
use Rattle.first_pass_tree.specs.declared.subtrees.Subtree.{Subtree}
use Rattle.first_pass_tree.specs.Subtrees.{IsSubtree, AreSubtrees, IsTree, subtree, within_first, ended_last, ended, last_between, left_between}
use Rattle.first_pass_tree.proofs.Keeps.{rev_take, set-is, modify-set, depths-modify, map_from-length}

-- the subtrees end before a greater index too
pub subtrees-up_to : (ds : List ℕ) (n m : ℕ) (es : List Subtree) → n ≤ m → AreSubtrees ds n es → AreSubtrees ds m es
subtrees-up_to ds n m [] l h = tt
subtrees-up_to ds n m (e ∷ es) l h = (let w = h.0 in omega arith, h.1, h.2)

first-are : (ds : List ℕ) (n count : ℕ) (es : List Subtree) → AreSubtrees ds n es → AreSubtrees ds count (within_first count es)
first-are ds n count [] h = tt
first-are ds n count (e ∷ es) h = grind (arith, nat_tests, first-are ds e.past count es h.2)

-- the subtrees that end within the first nodes
pub subtrees-first : (ds : List ℕ) (n count : ℕ) (es fs : List Subtree) → fs ≡ within_first count es → AreSubtrees ds n es → AreSubtrees ds count fs
subtrees-first ds n count es fs e h = subst (AreSubtrees ds count) (sym e) (first-are ds n count es h)

-- one step back, in a list whose last element comes first in contracts: it ends after the first nodes
pub first-fewer : (count left k : ℕ) (xs : List Subtree) (d : Subtree) → left ≡ k + 1 → k < length xs → count < (get_or xs k d).past
    → within_first count (reverse (take left xs)) ≡ within_first count (reverse (take k xs))
first-fewer count left k xs d e l p = grind (arith, nat_tests, rev_take)

-- the element ends within them
pub first-stop : (count left k : ℕ) (xs : List Subtree) (d : Subtree) → left ≡ k + 1 → k < length xs → (get_or xs k d).past ≤ count
    → within_first count (reverse (take left xs)) ≡ reverse (take left xs)
first-stop count left k xs d e l p = grind (arith, rev_take, nat_tests)

ended_last-are : (ds : List ℕ) (place past : ℕ) (es : List Subtree) → IsSubtree ds place past → AreSubtrees ds past es
    → AreSubtrees ds past (ended_last place past es)
ended_last-are ds place past es s h = grind (arith, subtrees-up_to)

-- the last subtree gets another end
pub subtrees-ended : (ds : List ℕ) (n place past : ℕ) (es fs : List Subtree) → fs ≡ ended place past es → IsSubtree ds place past
    → AreSubtrees ds n es → AreSubtrees ds past fs
subtrees-ended ds n place past es fs e s h =
    let w = s.following in
    let f = subtrees-up_to ds (place + 1) past _ (omega arith) (first-are ds n (place + 1) es h) in
    subst (AreSubtrees ds past) (sym e) (ended_last-are ds place past _ s f)

-- the last element of the list comes first when it is reversed
last_seen : (xs : List Subtree) (k : ℕ) (d : Subtree) → length xs ≡ k + 1 → reverse xs ≡ get_or xs k d ∷ reverse (take k xs)
last_seen xs k d l = ap reverse (sym (take_all (k + 1) xs (omega arith))) ∙ rev_take xs k d (omega arith)

-- the last record is that of the index, and another remains
pub ended-set : (place past k : ℕ) (xs : List Subtree) (d : Subtree) → length xs ≡ k + 1 → 0 < k → (get_or xs k d).place ≡ place
    → ended_last place past (reverse xs) ≡ reverse (set xs k (subtree place past))
ended-set place past k xs d l m e =
    let x = subtree place past in
    let t : ((get_or xs k d).place == place) ≡ true = grind (arith, nat_tests, e) in
    let w : 0 < length (reverse (take k xs)) = omega (arith, length-reverse (take k xs), length-take-le k xs (omega arith)) in
    let s : set xs k x ≡ take k xs ++ x ∷ [] = sym (take_all (k + 1) (set xs k x) (omega (arith, length-set xs k x))) ∙ take_more_set xs k x (omega arith) in
    ap (ended_last place past) (last_seen xs k d l) ∙ by _ _ w t ∙ sym (ap reverse s ∙ reverse-append (take k xs) (x ∷ []))
  where
    by : (e : Subtree) (es : List Subtree) → 0 < length es → (e.place == place) ≡ true → ended_last place past (e ∷ es) ≡ subtree place past ∷ es
    by e [] l t = absurd (omega arith)
    by e (o ∷ es) l t = rw t refl

-- with one more record, of a node without descendants
pub subtrees-added : (ds : List ℕ) (n place : ℕ) (es fs : List Subtree) → fs ≡ subtree place (place + 1) ∷ within_first place es → place < n
    → AreSubtrees ds n es → AreSubtrees ds n fs
subtrees-added ds n place es fs e l h =
    subst (AreSubtrees ds n) (sym e) (
      omega arith,
      record { following = omega arith; deeper = λ k a b. absurd (omega arith) },
      subtrees-up_to ds place (place + 1) _ (omega arith) (first-are ds n place es h),
    )

-- without the records that end after one of the nodes
pub subtrees-dropped : (ds : List ℕ) (n place : ℕ) (es fs : List Subtree) → fs ≡ within_first place es → place < n → AreSubtrees ds n es → AreSubtrees ds n fs
subtrees-dropped ds n place es fs e l h = subtrees-up_to ds place n fs (omega arith) (subtrees-first ds n place es fs e h)

-- the records that remain after the last one is taken
pub subtrees-left : (ds : List ℕ) (n from to : ℕ) (es fs : List Subtree) → fs ≡ left_between from to es → AreSubtrees ds n es → AreSubtrees ds n fs
subtrees-left ds n from to es fs e h = grind (arith, subtrees-up_to)

-- the record that is taken is the last one, between the two indices
pub taken-is : (P : Subtree → Type 0) (from to : ℕ) (es : List Subtree) (o : Option Subtree) → o ≡ last_between from to es
    → ((e : Subtree) (rest : List Subtree) → es ≡ e ∷ rest → from ≤ e.place → e.past ≤ to → P e) → IfSome o P
taken-is P from to es o q h = grind (arith, nat_tests)

-- the last node of a depth, with all nodes after it
last-subtree : {T : Type 0} (ns : List (ℕ × T)) (d i : ℕ) → IsLastAt (depths ns) d i → IsSubtree (depths ns) i (length ns)
last-subtree ns d i h = grind (arith, length-map)

-- the current node, with all nodes after it
pub current-subtree : {T : Type 0} (f : Forest T) (ix : TreeIndex) → f.current ≡ Some ix → IsForest f → IsSubtree (depths f.nodes) ix.0 (length f.nodes)
current-subtree f ix e h = grind (arith, last-subtree)

-- the same without the last nodes
pub fewer-subtree : (ds : List ℕ) (place past end : ℕ) → place < past → past ≤ end → IsSubtree ds place end → IsSubtree ds place past
fewer-subtree ds place past end l m h = record { following = l; deeper = λ k a b. h.deeper k a (omega arith) }

-- only the depths before the ends of the subtrees count
subtrees-kept : (ds es : List ℕ) (n : ℕ) (xs : List Subtree) → ((k : ℕ) → k < n → get_or es k 0 ≡ get_or ds k 0) → AreSubtrees ds n xs → AreSubtrees es n xs
subtrees-kept ds es n [] s h = tt
subtrees-kept ds es n (e ∷ xs) s h = (
  h.0,
  record {
    following = h.1.following;
    deeper = λ k a b.
        (let w = h.0 in let i = h.1.following in rw (s e.place (omega arith), s k (omega arith)) (h.1.deeper k a b));
  },
  subtrees-kept ds es e.past xs (λ k a. let w = h.0 in s k (omega arith)) h.2,
)

-- in a tree whose first nodes are the same, if the subtrees end before the others
pub subtrees-front : {T : Type 0} (ns ms : List (ℕ × T)) (n : ℕ) (xs : List Subtree) → n ≤ length ns → n ≤ length ms → take n ms ≡ take n ns
    → AreSubtrees (depths ns) n xs → AreSubtrees (depths ms) (length ms) xs
subtrees-front {T = T} ns ms n xs a b e h =
    let t : take n (depths ms) ≡ take n (depths ns) = take-map (λ m. m.0) n ms ∙ ap (λ (v : List (ℕ × T)). depths v) e ∙ sym (take-map (λ m. m.0) n ns) in
    subtrees-up_to (depths ms) n (length ms) xs b
    (subtrees-kept (depths ns) (depths ms) n xs (λ k l. sym (get_or-take n (depths ms) k 0 l) ∙ ap (λ v. get_or v k 0) t ∙ get_or-take n (depths ns) k 0 l) h)

-- in a tree with the same depths
pub subtrees-same : {T : Type 0} (ns ms : List (ℕ × T)) (xs : List Subtree) → depths ms ≡ depths ns → AreSubtrees (depths ns) (length ns) xs
    → AreSubtrees (depths ms) (length ms) xs
subtrees-same ns ms xs e h = grind (arith, length-map)

-- in a tree with any item written at an index
pub set-kept : {T : Type 0} (f : Forest T) (xs : List Subtree) (i : ℕ) (n : ℕ × T) (y : T) → n ≡ get_or f.nodes i n → IsTree f xs
    → IsTree (record f { nodes = set f.nodes i (n.0, y) }) xs
set-kept f xs i n y e h = record {
  forest = set-is f i n y e h.forest;
  known = subtrees-same f.nodes (set f.nodes i (n.0, y)) xs (ap depths (modify-set f.nodes i n (λ _. y) e) ∙ depths-modify f.nodes i (λ _. y)) h.known;
}

-- in a tree whose last nodes are cut off
pub subtrees-cut : {T : Type 0} (ns ms : List (ℕ × T)) (n : ℕ) (xs : List Subtree) → n ≤ length ns → ms ≡ take n ns → AreSubtrees (depths ns) n xs
    → AreSubtrees (depths ms) (length ms) xs
subtrees-cut ns ms n xs l e h = grind (arith, length-take-le, subtrees-front, take-take)

-- in a tree with more nodes at the end
pub subtrees-pushed : {T : Type 0} (ns ms more : List (ℕ × T)) (xs : List Subtree) → ms ≡ ns ++ more
    → AreSubtrees (depths ns) (length ns) xs → AreSubtrees (depths ms) (length ms) xs
subtrees-pushed ns ms more xs e h = grind (arith, subtrees-front, length-append, take-append-le)

-- in a tree with other nodes after the first ones
pub subtrees-joined : {T : Type 0} (ns ms more : List (ℕ × T)) (n : ℕ) (xs : List Subtree) → n ≤ length ns → ms ≡ take n ns ++ more
    → AreSubtrees (depths ns) n xs → AreSubtrees (depths ms) (length ms) xs
subtrees-joined ns ms more n xs l e h = subtrees-pushed (take n ns) ms more xs e (subtrees-cut ns (take n ns) n xs l refl h)

map_from-take : {T : Type 0} (g : ℕ × T → ℕ × T) (n : ℕ) (ns : List (ℕ × T)) → take n (map_from g n ns) ≡ take n ns
map_from-take g zero ns = refl
map_from-take g (suc n) [] = refl
map_from-take g (suc n) (m ∷ ns) = ap (λ z. m ∷ z) (map_from-take g n ns)

-- in a tree whose nodes after the first ones are changed
pub subtrees-changed : {T : Type 0} (ns ms : List (ℕ × T)) (g : ℕ × T → ℕ × T) (n : ℕ) (xs : List Subtree) → n ≤ length ns → ms ≡ map_from g n ns
    → AreSubtrees (depths ns) n xs → AreSubtrees (depths ms) (length ms) xs
subtrees-changed ns ms g n xs l e h =
    let w : n ≤ length ms = omega (arith, ap length e, map_from-length g n ns) in
    subtrees-front ns ms n xs l w (ap (take n) e ∙ map_from-take g n ns) h
