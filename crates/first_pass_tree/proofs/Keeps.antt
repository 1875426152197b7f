-- Each change of a forest results in a forest.
use Rattle.std.proofs.Common.{◌≡◌, ℕ, ◌+◌, ◌-◌, ◌<◌, ◌≤◌, ◌^◌, suc, zero, List, ◌∷◌, ◌++◌, length, get_or, set, take, drop, map, Some, None, true, false, Bool}
use Rattle.std.proofs.Common.{nat_lt, ◌≢◌, ◌⊎◌, reverse, slice_get, IfSome, Option, refl, sym, ◌∙◌, ap, subst, ⊎_elim, arith, add-one, length-append}
use Rattle.std.proofs.Common.{get_or-drop, get_or-take, length-take-le, length-drop, get_or-set_other, length-set, insert, option_map, []}
use Rattle.first_pass_tree.proofs.Common.{TreeIndex, Forest, IsForest, IsLastAt, IsOpenPath, IsPreorder, depths, item_at, modify, run_end, end_of, sibling_of}
use Rattle.first_pass_tree.proofs.Common.{in_table, in_table_by, appended, popped, cut_to, kept_after, childless, wrapped, map_from, deeper, IsShallow}
use Rattle.first_pass_tree.proofs.Common.{open_place, IsChild, Item, length-reverse, get_or-reverse, map-append, length-map, take-map, get_or-map, take_more}
use Rattle.first_pass_tree.proofs.Common.{reverse-append, get_or_at, map-set, ItemBody, nat_tests, cases_lt, Table, TableHead, TableRow, TableCell}
use Rattle.std.proofs.lemmas.Option.{slice_get-get_or}
use Rattle.std.proofs.lemmas.List.Sums.{prefix_len-drop_yes, prefix_len-drop_no, prefix_len-drop_all, prefix_len-le-length, prefix_len_is}
use Rattle.first_pass_items.specs.declared.item.AlignmentIndex.{AlignmentIndex}
use Rattle.first_pass_tree.proofs.Depths.{IsEdit, last-edit, path-edit, append-edit, take-edit, last-push, path-last_depth, preorder-append, preorder-take}
use Rattle.first_pass_tree.proofs.Depths.{open-last, last-order, depth-small, before-end}

pub appended-is : {T : Type 0} (f : Forest T) (x : T) → IsForest f → IsForest (appended f x)
appended-is f x h =
    let ds = depths f.nodes in
    let e = length f.spine + 1 in
    let l = path-last_depth ds f.spine h.opened in
    let o = open-last ds f.spine h.opened in
    let m = map-append (λ n. n.0) f.nodes ((e, x) ∷ []) in
    record {
      preorder = subst IsPreorder (sym m) (preorder-append ds e h.preorder l.0 (omega arith));
      opened = subst (λ (v : List ℕ). IsOpenPath v f.spine) (sym m)
          (path-edit ds _ f.spine _ _ (append-edit ds (length f.spine) e (omega arith)) (omega (arith, o.within)) (omega arith) h.opened);
      at_current = subst (λ (v : List ℕ). IsLastAt v e (length f.nodes)) (sym m)
          (subst (λ (n : ℕ). IsLastAt (ds ++ e ∷ []) e n) (length-map f.nodes (λ n. n.0)) (last-push ds e));
    }

-- the same, from the results of the calls on the fields
pub appended_by-is : {T : Type 0} (f : Forest T) (x : T) (ns : List (ℕ × T)) (d n : ℕ) → IsForest f → ns ≡ f.nodes ++ (d, x) ∷ [] → d ≡ length f.spine + 1
    → n ≡ length f.nodes → IsForest (record f { nodes = ns; current = Some (record { 0 = n }) })
appended_by-is f x ns d n h e p q = rw (e, p, q) (appended-is f x h)

-- a child of the current node, after all its descendants
pub below-is : {T : Type 0} (f : Forest T) (c : TreeIndex) (x : T)
    → f.current ≡ Some c → IsForest f → IsForest (record f { nodes = f.nodes ++ (length f.spine + 2, x) ∷ [] })
below-is {T = T} f c x q h =
    let d = length f.spine + 1 in
    let l = subst (λ (o : Option TreeIndex). IfSome o (λ c. IsLastAt (depths f.nodes) d c.0)) q h.at_current in
    let opened : Forest T = record f { spine = c ∷ f.spine; current = None } in
    let p = appended-is opened x (record { preorder = h.preorder; opened = (l, h.opened); at_current = tt }) in
    let n : length (c ∷ f.spine) + 1 ≡ length f.spine + 2 = omega arith in
    let o = p.opened in
    subst (λ (e : ℕ). IsForest (record f { nodes = f.nodes ++ (e, x) ∷ [] })) n (record {
      preorder = p.preorder;
      opened = o.1;
      at_current = subst (λ (k : Option TreeIndex). IfSome k (λ c. IsLastAt (depths (appended opened x).nodes) d c.0)) (sym q) o.0;
    })

-- a write to one item
pub modify-set : {T : Type 0} (ns : List (ℕ × T)) (i : ℕ) (n : ℕ × T) (g : T → T) → n ≡ get_or ns i n → set ns i (n.0, g n.1) ≡ modify ns i g
modify-set [] i n g e = refl
modify-set (m ∷ ns) zero n g e = ap (λ k. (k.0, g k.1) ∷ ns) e
modify-set (m ∷ ns) (suc i) n g e = ap (λ k. m ∷ k) (modify-set ns i n g e)

pub depths-modify : {T : Type 0} (ns : List (ℕ × T)) (i : ℕ) (g : T → T) → depths (modify ns i g) ≡ depths ns
depths-modify [] i g = refl
depths-modify (m ∷ ns) zero g = refl
depths-modify (m ∷ ns) (suc i) g = ap (λ k. m.0 ∷ k) (depths-modify ns i g)

-- only the depths matter
pub same_depths-is : {T : Type 0} (f : Forest T) (ns : List (ℕ × T)) → depths ns ≡ depths f.nodes → IsForest f → IsForest (record f { nodes = ns })
same_depths-is f ns e h = grind arith

pub modified-is : {T : Type 0} (f : Forest T) (i : ℕ) (g : T → T) → IsForest f → IsForest (record f { nodes = modify f.nodes i g })
modified-is f i g h = same_depths-is f (modify f.nodes i g) (depths-modify f.nodes i g) h

-- any item may be written at an index
pub set-is : {T : Type 0} (f : Forest T) (i : ℕ) (n : ℕ × T) (y : T)
    → n ≡ get_or f.nodes i n → IsForest f → IsForest (record f { nodes = set f.nodes i (n.0, y) })
set-is f i n y e h = rw (modify-set f.nodes i n (λ _. y) e) (modified-is f i (λ _. y) h)

-- only the first nodes remain, the open ones among them
pub cut-is : {T : Type 0} (f : Forest T) (n : ℕ) (cur : Option TreeIndex) → open_place f.spine < n → n ≤ length (depths f.nodes)
    → IfSome cur (λ c. IsLastAt (take n (depths f.nodes)) (length f.spine + 1) c.0) → IsForest f → IsForest (record f { nodes = take n f.nodes; current = cur })
cut-is f n cur l m at h =
    let ds = depths f.nodes in
    let t = take-map (λ n. n.0) n f.nodes in
    record {
      preorder = subst IsPreorder t (preorder-take ds n m h.preorder);
      opened = subst (λ (v : List ℕ). IsOpenPath v f.spine) t (path-edit ds _ f.spine n _ (take-edit ds n (length f.spine) m) l (omega arith) h.opened);
      at_current = subst (λ (v : List ℕ). IfSome cur (λ c. IsLastAt v (length f.spine + 1) c.0)) t at;
    }

-- the tree up to its innermost open node, after that is closed
pub closed-is : {T : Type 0} (f : Forest T) (c : TreeIndex) (rest : List TreeIndex)
    → f.spine ≡ c ∷ rest → IsForest f → IsForest (cut_to (popped f c rest) (c.0 + 1))
closed-is f c rest e h =
    let ds = depths f.nodes in
    let o = subst (λ (v : List TreeIndex). IsOpenPath ds v) e h.opened in
    let w = o.0.within in
    let l = last-order ds _ _ _ c.0 (open-last ds rest o.1) o.0 (omega arith) in
    let last = last-edit ds _ (c.0 + 1) _ _ c.0 (take-edit ds (c.0 + 1) (length rest + 1) (omega arith)) (omega arith) (omega arith) o.0 in
    cut-is (popped f c rest) (c.0 + 1) (Some c) (omega arith) (omega arith) last (record { preorder = h.preorder; opened = o.1; at_current = o.0 })

-- the result of a write to one item
pub modified-by : {T : Type 0} (f now : Forest T) (i : ℕ) (n : ℕ × T) (g : T → T)
    → f ≡ now → n ≡ get_or f.nodes i n → record f { nodes = set f.nodes i (n.0, g n.1) } ≡ record now { nodes = modify now.nodes i g }
modified-by {T = T} f now i n g e q = grind (arith, modify-set)

-- the root exists
pub root-within : {T : Type 0} (f : Forest T) → IsForest f → 0 < length f.nodes
root-within f h = omega (arith, path-last_depth (depths f.nodes) f.spine h.opened, length-map f.nodes (λ n. n.0))

-- the depth at an index that is read
pub depth_at : {T : Type 0} (ns : List (ℕ × T)) (i : ℕ) (n : ℕ × T) → i < length ns → n ≡ get_or ns i n → get_or (depths ns) i 0 ≡ n.0
depth_at ns i n l e = get_or-map (λ n. n.0) ns i n 0 l ∙ ap (λ m. m.0) (sym e)

-- the same for an index of a slice
pub depth_read : {T : Type 0} (ns : List (ℕ × T)) (i : ℕ) (d : ℕ × T) → i < length ns → get_or (depths ns) i 0 ≡ (get_or ns i d).0
depth_read ns i d l = get_or-map (λ n. n.0) ns i d 0 l

-- a run of deeper nodes: one more node, and its end
pub run_more : {T : Type 0} (ns : List (ℕ × T)) (depth i : ℕ) (d : ℕ × T)
    → i < length ns → depth < (get_or ns i d).0 → run_end (depths ns) depth (i + 1) ≡ run_end (depths ns) depth i
run_more ns depth i d l h = grind (arith, length-map, depth_read, nat_tests, prefix_len-drop_yes)

pub run_stop : {T : Type 0} (ns : List (ℕ × T)) (depth i : ℕ) (d : ℕ × T) → i < length ns → (get_or ns i d).0 ≤ depth → run_end (depths ns) depth i ≡ i
run_stop ns depth i d l h = grind (arith, length-map, depth_read, nat_tests, prefix_len-drop_no)

pub run_all : {T : Type 0} (ns : List (ℕ × T)) (depth i : ℕ) → length ns ≤ i → run_end (depths ns) depth i ≡ i
run_all ns depth i l = grind (arith, length-map, prefix_len-drop_all)

-- the next sibling, as the code tests it
pub sibling-some : {T : Type 0} (ns : List (ℕ × T)) (i e : ℕ) (d : ℕ × T) → i < length ns → e ≡ run_end (depths ns) (get_or ns i d).0 (i + 1) → e < length ns
    → (get_or ns e d).0 ≡ (get_or ns i d).0 → Some (record { 0 = e }) ≡ sibling_of (depths ns) i
sibling-some ns i e d l r p h = grind (arith, length-map, depth_read, nat_tests)

pub sibling-none : {T : Type 0} (ns : List (ℕ × T)) (i e : ℕ) (d : ℕ × T) → i < length ns → e ≡ run_end (depths ns) (get_or ns i d).0 (i + 1)
    → (e < length ns → (get_or ns e d).0 ≢ (get_or ns i d).0) → None ≡ sibling_of (depths ns) i
sibling-none ns i e d l r h = grind (arith, depth_read, nat_tests, length-map)

pub rev_take : {X : Type 0} (xs : List X) (k : ℕ) (d : X) → k < length xs → reverse (take (k + 1) xs) ≡ get_or xs k d ∷ reverse (take k xs)
rev_take xs k d l =
    ap reverse (take_more xs k d l) ∙ reverse-append (take k xs) (get_or xs k d ∷ [])

-- one step outwards
pub in_table-turn : (ns : List (ℕ × Item)) (xs : List TreeIndex) (left k : ℕ) (d : TreeIndex) (m : ℕ × Item)
    → left ≡ k + 1 → k < length xs → IsOpenPath (depths ns) (reverse (take left xs))
    → (in_table ns (reverse (take left xs)) ≡ in_table_by (in_table ns (reverse (take k xs))) (Some (get_or ns (get_or xs k d).0 m).1.body))
    × IsOpenPath (depths ns) (reverse (take k xs))
in_table-turn ns xs left k d m e l h =
    let r = ap (λ n. reverse (take n xs)) e ∙ rev_take xs k d l in
    let o = subst (IsOpenPath (depths ns)) r h in
    let w : (get_or xs k d).0 < length ns = omega (arith, o.0.within, length-map ns (λ n. n.0)) in (
      ap (in_table ns) r
          ∙ ap (λ (o : Option (ℕ × Item)). in_table_by (in_table ns (reverse (take k xs))) (option_map (λ m. m.1.body) o))
          (slice_get-get_or ns (get_or xs k d).0 m w),
      o.1,
    )

pub in_table-stop : (o : Bool) (b : ItemBody)
    → ((a : AlignmentIndex) → b ≡ Table a → ⊥) → (b ≡ TableHead → ⊥) → (b ≡ TableRow → ⊥) → (b ≡ TableCell → ⊥) → in_table_by o (Some b) ≡ false
in_table-stop o b t h r c = grind arith

pub in_table-more : (o : Bool) (b : ItemBody) → (b ≡ TableHead) ⊎ ((b ≡ TableRow) ⊎ (b ≡ TableCell)) → in_table_by o (Some b) ≡ o
in_table-more o b h = ⊎_elim (λ e. rw e refl) (λ k. ⊎_elim (λ e. rw e refl) (λ e. rw e refl) k) h

pub in_table-table : (o : Bool) (b : ItemBody) (a : AlignmentIndex) → b ≡ Table a → in_table_by o (Some b) ≡ true
in_table-table o b a e = rw e refl

-- a run of deeper nodes ends within the list
pub run-within : {T : Type 0} (ns : List (ℕ × T)) (depth i : ℕ) → i ≤ length ns → run_end (depths ns) depth i ≤ length ns
run-within ns depth i l = grind (arith, length-map, prefix_len-le-length, length-drop)

pub kept_after-is : {T : Type 0} (f : Forest T) (ix : TreeIndex) → IsChild f ix → IsForest f → IsForest (kept_after f ix)
kept_after-is f ix g h =
    let ds = depths f.nodes in
    let m = length-map f.nodes (λ n. n.0) in
    let p = end_of ds ix.0 in
    let v : p ≤ length ds = omega (arith, run-within f.nodes (get_or ds ix.0 0) (ix.0 + 1) (omega (arith, g.within))) in
    let n = length-take-le p ds v in
    let last : IsLastAt (take p ds) (length f.spine + 1) ix.0 = record {
      within = omega arith;
      depth = get_or-take p ds ix.0 0 (omega arith) ∙ g.depth;
      following = λ k a b. omega (arith, before-end ds ix.0 k a (omega arith), get_or-take p ds k 0 (omega arith), g.depth);
    } in
    cut-is f p (Some ix) (omega (arith, g.following)) v last h

pub open-at : (is : List TreeIndex) (ix : TreeIndex) → slice_get is 0 ≡ Some ix → open_place is ≡ ix.0
open-at is ix g = grind arith

pub childless-is : {T : Type 0} (f : Forest T) (ix : TreeIndex) → slice_get f.spine 0 ≡ Some ix → IsForest f → IsForest (childless f ix)
childless-is f ix g h =
    let o = (open-last (depths f.nodes) f.spine h.opened).within in
    let e = open-at f.spine ix g in
    cut-is f (ix.0 + 1) None (omega arith) (omega arith) tt h

pub open-within : {T : Type 0} (f : Forest T) (ix : TreeIndex) → slice_get f.spine 0 ≡ Some ix → IsForest f → ix.0 < length f.nodes
open-within f ix g h = omega (arith, (open-last (depths f.nodes) f.spine h.opened).within, open-at f.spine ix g, length-map f.nodes (λ n. n.0))

-- the same for a forest that is equal to a given one
pub open-seen : {T : Type 0} (f g : Forest T) (ix : TreeIndex) → f ≡ g → slice_get g.spine 0 ≡ Some ix → IsForest f → ix.0 < length f.nodes
open-seen {T = T} f g ix e q h = open-within f ix (subst (λ (v : Forest T). slice_get v.spine 0 ≡ Some ix) (sym e) q) h

pub opened-within : {T : Type 0} (f : Forest T) (c : TreeIndex) (rest : List TreeIndex) → f.spine ≡ c ∷ rest → IsForest f → c.0 < length f.nodes
opened-within f c rest e h = open-within f c (ap (λ (is : List TreeIndex). slice_get is 0) e) h

-- a change from an index on: one more element, and its end
pub map_from-next : {T : Type 0} (g : ℕ × T → ℕ × T) (ns : List (ℕ × T)) (i : ℕ) (n : ℕ × T)
    → i < length ns → n ≡ get_or ns i n → map_from g (i + 1) (set ns i (g n)) ≡ map_from g i ns
map_from-next {T = T} g ns i n l e = rw add-one (by ns i l e)
  where
    by : (ns : List (ℕ × T)) (i : ℕ) → i < length ns → n ≡ get_or ns i n → map_from g (suc i) (set ns i (g n)) ≡ map_from g i ns
    by [] i l e = absurd (omega arith)
    by (m ∷ ns) zero l e = ap (λ k. g k ∷ map g ns) e
    by (m ∷ ns) (suc i) l e = ap (λ k. m ∷ k) (by ns i (omega arith) e)

pub map_from-end : {T : Type 0} (g : ℕ × T → ℕ × T) (ns : List (ℕ × T)) (i : ℕ) → length ns ≤ i → map_from g i ns ≡ ns
map_from-end g [] zero l = refl
map_from-end g [] (suc i) l = refl
map_from-end g (m ∷ ns) zero l = absurd (omega arith)
map_from-end g (m ∷ ns) (suc i) l = ap (λ k. m ∷ k) (map_from-end g ns i (omega arith))

pub map_from-length : {T : Type 0} (g : ℕ × T → ℕ × T) (n : ℕ) (ns : List (ℕ × T)) → length (map_from g n ns) ≡ length ns
map_from-length g zero ns = length-map ns g
map_from-length g (suc n) [] = refl
map_from-length g (suc n) (m ∷ ns) = ap suc (map_from-length g n ns)

-- the nodes after one is inserted and those after it are changed
pub wrap-nodes : {T : Type 0} (g : ℕ × T → ℕ × T) (ns : List (ℕ × T)) (p : ℕ) (y : ℕ × T)
    → p ≤ length ns → map_from g (suc p) (insert ns p y) ≡ take p ns ++ y ∷ map g (drop p ns)
wrap-nodes g [] zero y l = refl
wrap-nodes g (n ∷ ns) zero y l = refl
wrap-nodes g [] (suc p) y l = absurd (omega arith)
wrap-nodes g (n ∷ ns) (suc p) y l = ap (λ z. n ∷ z) (wrap-nodes g ns p y (omega arith))

-- each depth after an inserted node can still be increased by one
pub insert-small : {T : Type 0} (ns : List (ℕ × T)) (p : ℕ) (y : ℕ × T)
    → p ≤ length ns → IsShallow (depths ns) → (k : ℕ) → suc p ≤ k → k < length (insert ns p y) → get_or (depths (insert ns p y)) k 0 < 2 ^ 63
insert-small ns p y l h zero a b = absurd (omega arith)
insert-small [] zero y l h (suc k) a b = absurd (omega arith)
insert-small (n ∷ ns) zero y l h (suc k) a b = h k (omega (arith, length-map (n ∷ ns) (λ (m : ℕ × _). m.0)))
insert-small [] (suc p) y l h (suc k) a b = absurd (omega arith)
insert-small (n ∷ ns) (suc p) y l h (suc k) a b = insert-small ns p y (omega arith) (λ j q. h (suc j) (omega arith)) k (omega arith) (omega arith)

-- after a write to one index, each depth after it keeps its property
pub set-keeps : {T : Type 0} (P : ℕ → Type 0) (ns : List (ℕ × T)) (i : ℕ) (n : ℕ × T)
    → ((k : ℕ) → i ≤ k → k < length ns → P (get_or (depths ns) k 0)) → (k : ℕ) → i + 1 ≤ k → k < length (set ns i n) → P (get_or (depths (set ns i n)) k 0)
set-keeps P ns i n h k a b = grind (arith, map-set, get_or-set_other, length-set)

-- the depths once a node is inserted before an index, and those from there on are one greater
abbrev wrap : List ℕ → ℕ → ℕ → List ℕ
wrap ds p e = take p ds ++ e ∷ map (λ d. d + 1) (drop p ds)

wrap-length : (ds : List ℕ) (p e : ℕ) → p ≤ length ds → length (wrap ds p e) ≡ length ds + 1
wrap-length ds p e m =
    grind (arith, length-append (take p ds) (e ∷ map (λ d. d + 1) (drop p ds)), length-take-le p ds m, length-map (drop p ds) (λ d. d + 1), length-drop p ds)

wrap-below : (ds : List ℕ) (p e k : ℕ) → p ≤ length ds → k < p → get_or (wrap ds p e) k 0 ≡ get_or ds k 0
wrap-below ds zero e k m l = absurd (omega arith)
wrap-below [] (suc p) e k m l = absurd (omega arith)
wrap-below (d ∷ ds) (suc p) e zero m l = refl
wrap-below (d ∷ ds) (suc p) e (suc k) m l = wrap-below ds p e k (omega arith) (omega arith)

wrap-here : (ds : List ℕ) (p e k : ℕ) → p ≤ length ds → k ≡ p → get_or (wrap ds p e) k 0 ≡ e
wrap-here ds p e k m h = get_or_at (take p ds) e (map (λ d. d + 1) (drop p ds)) 0 k (omega (arith, length-take-le p ds m))

wrap-following : (ds : List ℕ) (p e k j : ℕ) → j ≡ k + 1 → p ≤ k → k < length ds → get_or (wrap ds p e) j 0 ≡ get_or ds k 0 + 1
wrap-following ds p e k j h a b = rw (h, add-one) (by ds p k a b)
  where
    by : (ds : List ℕ) (p k : ℕ) → p ≤ k → k < length ds → get_or (wrap ds p e) (suc k) 0 ≡ get_or ds k 0 + 1
    by ds zero k a b = get_or-map (λ d. d + 1) ds k 0 0 b
    by [] (suc p) k a b = absurd (omega arith)
    by (d ∷ ds) (suc p) zero a b = absurd (omega arith)
    by (d ∷ ds) (suc p) (suc k) a b = by ds p k (omega arith) (omega arith)

-- the inserted node is deeper than the last node before it, and so are all later ones
wrap-edit : (ds : List ℕ) (d p e : ℕ) → d < e → p ≤ length ds → ((k : ℕ) → p ≤ k → k < length ds → d < get_or ds k 0) → IsEdit ds (wrap ds p e) p d
wrap-edit ds d p e q m h =
    let n = wrap-length ds p e m in
    record {
      within = m;
      there = omega arith;
      before = λ k a. wrap-below ds p e k m a;
      following = λ k a b. ⊎_elim
          (λ x. omega (arith, wrap-following ds p e (k - 1) k (omega arith) (omega arith) (omega arith), h (k - 1) (omega arith) (omega arith)))
          (λ x. omega (arith, wrap-here ds p e k m (omega arith)))
          (cases_lt p k);
    }

depths-deeper : {T : Type 0} (ns : List (ℕ × T)) → depths (map deeper ns) ≡ map (λ d. d + 1) (depths ns)
depths-deeper [] = refl
depths-deeper (n ∷ ns) = ap (λ z. (n.0 + 1) ∷ z) (depths-deeper ns)

depths-wrap : {T : Type 0} (ns : List (ℕ × T)) (p e : ℕ) (x : T)
    → depths (take p ns ++ (e, x) ∷ map deeper (drop p ns)) ≡ take p (depths ns) ++ e ∷ map (λ d. d + 1) (drop p (depths ns))
depths-wrap ns zero e x = ap (λ z. e ∷ z) (depths-deeper ns)
depths-wrap [] (suc p) e x = refl
depths-wrap (n ∷ ns) (suc p) e x = ap (λ z. n.0 ∷ z) (depths-wrap ns p e x)

preorder-wrap : (ds : List ℕ) (c e : ℕ) → IsPreorder ds → c < length ds → get_or ds c 0 + 1 ≡ e → IsPreorder (wrap ds (c + 1) e)
preorder-wrap ds c e h m q = λ k a.
    let p = c + 1 in
    let len = wrap-length ds p e (omega arith) in
    grind (
      arith,
      wrap-below ds p e k (omega arith),
      wrap-below ds p e (k + 1) (omega arith),
      wrap-here ds p e k (omega arith),
      wrap-here ds p e (k + 1) (omega arith),
      wrap-following ds p e k (k + 1) refl,
      wrap-following ds p e (k - 1) k,
      h k,
      h (k - 1),
      h c,
    )

pub wrapped-is : {T : Type 0} (f : Forest T) (c : TreeIndex) (x : T) → f.current ≡ Some c → IsForest f → IsForest (wrapped f c x)
wrapped-is f c x q h =
    let ds = depths f.nodes in
    let p = c.0 + 1 in
    let e = length f.spine + 2 in
    let l = subst (λ (o : Option TreeIndex). IfSome o (λ c. IsLastAt ds (length f.spine + 1) c.0)) q h.at_current in
    let o = last-order ds _ _ _ c.0 (open-last ds f.spine h.opened) l (omega arith) in
    let m : p ≤ length ds = omega (arith, l.within) in
    let t = sym (depths-wrap f.nodes p e x) in
    let edit = wrap-edit ds (length f.spine + 1) p e (omega arith) m (λ k a b. l.following k (omega arith) b) in
    record {
      preorder = subst IsPreorder t (preorder-wrap ds c.0 e h.preorder l.within (omega (arith, l.depth)));
      opened = subst (λ (v : List ℕ). IsOpenPath v f.spine) t (path-edit ds _ f.spine p _ edit (omega arith) (omega arith) h.opened);
      at_current =
          subst (λ (o : Option TreeIndex). IfSome o (λ c. IsLastAt (depths (take p f.nodes ++ (e, x) ∷ map deeper (drop p f.nodes))) (length f.spine + 1) c.0))
          (sym q)
          (subst (λ (v : List ℕ). IsLastAt v (length f.spine + 1) c.0) t (last-edit ds _ p _ _ c.0 edit (omega arith) (omega arith) l));
    }

root-depth : (ds : List ℕ) (is : List TreeIndex) → IsOpenPath ds is → get_or ds 0 0 ≡ 0
root-depth ds [] h = h.depth
root-depth ds (i ∷ is) h = root-depth ds is h.1

pub shallow : {T : Type 0} (f : Forest T) → IsForest f → length f.nodes < 2 ^ 63 → IsShallow (depths f.nodes)
shallow f h l = grind (arith, depth-small, root-depth, length-map)

pub current-within : {T : Type 0} (f : Forest T) (c : TreeIndex) → f.current ≡ Some c → IsForest f → c.0 < length f.nodes
current-within f c q h = grind (arith, length-map)

-- the end of the descendants of a node whose depth is known
pub end-known : {T : Type 0} (ns ms : List (ℕ × T)) (i e d : ℕ) → ms ≡ ns → d ≡ get_or (depths ns) i 0
    → e ≡ run_end (depths ms) d (i + 1) → e ≡ end_of (depths ns) i
end-known {T = T} ns ms i e d q r h = grind arith

-- the descendants of the last node of a depth end with the list
last-end : {T : Type 0} (ns : List (ℕ × T)) (d i : ℕ) → IsLastAt (depths ns) d i → end_of (depths ns) i ≡ length ns
last-end ns d i h =
    let ds = depths ns in
    let m = length-map ns (λ n. n.0) in
    let n = length-drop (i + 1) ds in
    let w = h.within in
    let r = prefix_len_is (λ e. nat_lt (get_or ds i 0) e) (drop (i + 1) ds) (length (drop (i + 1) ds)) 0 (omega arith)
    (λ k l.
    let b = h.following (i + 1 + k) (omega arith) (omega arith) in
    let t : nat_lt (get_or ds i 0) (get_or ds (i + 1 + k) 0) ≡ true = grind (arith, nat_tests, h.depth, b) in
    ap (nat_lt (get_or ds i 0)) (get_or-drop (i + 1) ds k 0) ∙ t)
    (λ l. absurd (omega arith)) in
    omega arith

pub current-end : {T : Type 0} (f : Forest T) (c ix : TreeIndex) → f.current ≡ Some c → c.0 ≡ ix.0 → IsForest f → end_of (depths f.nodes) ix.0 ≡ length f.nodes
current-end f c ix q e h = grind (arith, last-end)

-- the indices of the open nodes are within the list
path-within : (ds : List ℕ) (is : List TreeIndex) → IsOpenPath ds is → (k : ℕ) → k < length is → (d : TreeIndex) → (get_or is k d).0 < length ds
path-within ds [] h k l d = absurd (omega arith)
path-within ds (i ∷ is) h zero l d = h.0.within
path-within ds (i ∷ is) h (suc k) l d = path-within ds is h.1 k (omega arith) d

pub spine-small : {T : Type 0} (f : Forest T) (xs : List TreeIndex)
    → f.spine ≡ reverse xs → IsForest f → length f.nodes < 2 ^ 63 → (k : ℕ) → k < length xs → IfSome (slice_get xs k) (λ ix. ix.0 < 2 ^ 63)
spine-small f xs e h l k a =
    let d : TreeIndex = record { 0 = 0 } in
    let n = length-reverse xs in
    let r = get_or-reverse xs (length xs - 1 - k) d (omega arith) in
    let z : length xs - 1 - (length xs - 1 - k) ≡ k = omega arith in
    let w =
    path-within (depths f.nodes) (reverse xs) (subst (λ (v : List TreeIndex). IsOpenPath (depths f.nodes) v) e h.opened) (length xs - 1 - k) (omega arith) d in
    let m = length-map f.nodes (λ n. n.0) in
    let q : get_or (reverse xs) (length xs - 1 - k) d ≡ get_or xs k d = r ∙ ap (λ i. get_or xs i d) z in
    let v : (get_or xs k d).0 < 2 ^ 63 = omega (arith, ap (λ (t : TreeIndex). t.0) q) in
    subst (λ (o : Option TreeIndex). IfSome o (λ ix. ix.0 < 2 ^ 63)) (sym (slice_get-get_or xs k d a)) v

pub item-read : {T : Type 0} (f now : Forest T) (ix : TreeIndex) (n : ℕ × T)
    → f ≡ now → ix.0 < length now.nodes → n ≡ get_or f.nodes ix.0 n → item_at now ix ≡ Some n.1
item-read {T = T} f now ix n e l r = grind (arith, slice_get-get_or)
