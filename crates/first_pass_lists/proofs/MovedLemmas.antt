-- A node that was just closed is current. Its last child is then a child of the current node. When this child is moved
-- out of the closed node, the child becomes current.
use Rattle.std.proofs.Common.{◌≡◌, ℕ, zero, suc, ◌+◌, ◌-◌, ◌<◌, ◌≤◌, ◌==◌, Bool, true, false, List, [], ◌∷◌, length, map, slice_get, slice_index, Option}
use Rattle.std.proofs.Common.{Some, IfSome, IsSome, if◌then◌else◌, bit_and, refl, sym, ◌∙◌, ap, subst, arith, IsSomeAnd}
use Rattle.first_pass_grammar.proofs.Common.{length-map, cases_lt, cases_eq, Item, ItemBody, DefinitionList, TreeIndex, Forest, IsForest, IsLastAt}
use Rattle.first_pass_grammar.proofs.Common.{IsOpenPath, depths, body_at, map_from, shallower, last_before, moved_from, tight_items, last-order}
use Rattle.first_pass_grammar.proofs.Common.{depths-modify}
use Rattle.first_pass_items.specs.declared.item.ItemBody.TheVariants.{List as ListBody}
use Rattle.first_pass_tree.specs.Forest.{IsChildOfCurrent}
use Rattle.first_pass_tree.proofs.Keeps.{map_from-length}
use Rattle.first_pass_tree.proofs.Moves.{IsLastBefore, last_before-is}
use Rattle.first_pass_tree.proofs.TightLemmas.{tight_from_depths}
use Rattle.first_pass_open.specs.OpenBlock.{closed_by}
use Rattle.first_pass_lists.specs.declared.state.PassState.{PassState}
use Rattle.first_pass_lists.specs.Closing.{popped_by, popped_at, current_moved, definitions_closed}

-- two trees have the same depths, the same open nodes and the same current node; their items may differ
pub record IsAlike (f g : Forest Item) : Type 0 where
  pub depths_are : depths g.nodes ≡ depths f.nodes
  pub spine_is : g.spine ≡ f.spine
  pub current_is : g.current ≡ f.current

pub tight_alike : (f : Forest Item) (ix : TreeIndex) (tight : Bool) → IsAlike f (if tight then tight_items f ix else f)
tight_alike f ix true = record {
  depths_are = tight_from_depths f (tight_items f ix) (slice_index (depths f.nodes) ix.0) (ix.0 + 1) refl;
  spine_is = refl;
  current_is = refl;
}
tight_alike f ix false = record { depths_are = refl; spine_is = refl; current_is = refl }

closed_alike : (r : PassState) (f : Forest Item) (ix : TreeIndex) (b : Option ItemBody) → IsAlike f (popped_by r f ix b).tree
closed_alike r f ix (Some (ListBody flags byte number)) = tight_alike f ix (bit_and flags.0 1 == 1)
closed_alike r f ix (Some (DefinitionList flags)) = tight_alike f ix (bit_and flags.0 1 == 1)
closed_alike r f ix b = record { depths_are = refl; spine_is = refl; current_is = refl }

child_alike : (f g : Forest Item) (ix : TreeIndex) → IsAlike f g → IsChildOfCurrent f ix → IsChildOfCurrent g ix
child_alike f g ix a h =
    record {
      within = omega (arith, h.within, length-map f.nodes (λ n. n.0), length-map g.nodes (λ n. n.0), ap length a.depths_are);
      depth = ap (λ ds. slice_index ds ix.0) a.depths_are ∙ h.depth ∙ ap (λ (s : List TreeIndex). length s + 2) (sym a.spine_is);
      current = subst (λ c. IsSomeAnd c (λ c. c.0 < ix.0)) (sym a.current_is) h.current;
    }

-- the current node is the last one of its depth
pub current_is_last : (f : Forest Item) (c : TreeIndex) → IsForest f → f.current ≡ Some c → IsLastAt (depths f.nodes) (length f.spine + 1) c.0
current_is_last f c forest current = subst (λ o. IfSome o (λ (c : TreeIndex). IsLastAt (depths f.nodes) (length f.spine + 1) c.0)) current forest.at_current

child_closed : (f : Forest Item) (e : ℕ) (ix last : TreeIndex) (rest : List TreeIndex)
    → IsForest f → f.spine ≡ ix ∷ rest → f.current ≡ Some last → IsChildOfCurrent (closed_by f e (ix ∷ rest)) last
child_closed f e ix last rest forest spine current =
    let ds = depths f.nodes in
    let same : depths (closed_by f e (ix ∷ rest)).nodes ≡ ds = depths-modify f.nodes ix.0 (λ x. record x { «end» = e }) in
    let opened : IsOpenPath ds (ix ∷ rest) = subst (IsOpenPath ds) spine forest.opened in
    let l = current_is_last f last forest current in
    let deep : length f.spine ≡ length rest + 1 = ap (λ (s : List TreeIndex). length s) spine ∙ omega arith in
    record {
      within = omega (arith, l.within, length-map f.nodes (λ n. n.0), length-map (closed_by f e (ix ∷ rest)).nodes (λ n. n.0), ap length same);
      depth = ap (λ z. slice_index z last.0) same ∙ l.depth ∙ omega (arith, deep);
      current = last-order ds (length rest + 1) (length f.spine + 1) ix.0 last.0 opened.0 l (omega (arith, deep));
    }

-- The current node is the last child of the innermost open node. After the innermost open node is closed, this child
-- is a child of the current node.
pub child_after : (r s : PassState) (e : ℕ) (spine : List TreeIndex) (last : TreeIndex) → IsForest r.tree → r.tree.spine ≡ spine → IsSome (slice_get spine 0)
    → r.tree.current ≡ Some last → s ≡ popped_at e r spine → IsChildOfCurrent s.tree last
child_after r s e [] last forest is some current now = cc
child_after r s e (ix ∷ rest) last forest is some current now =
    let f : Forest Item = closed_by r.tree e (ix ∷ rest) in
    subst (λ (q : PassState). IsChildOfCurrent q.tree last) (sym now)
    (child_alike f _ last (closed_alike r f ix (body_at f.nodes ix.0)) (child_closed r.tree e ix last rest forest is current))

-- if all nodes of a list are moved up one level, the depth at each index is one less
all_lower : (ns : List (ℕ × Item)) (k : ℕ) → slice_index (depths (map shallower ns)) k ≡ slice_index (depths ns) k - 1
all_lower [] k = omega arith
all_lower (n ∷ ns) zero = refl
all_lower (n ∷ ns) (suc k) = all_lower ns k

-- if the nodes from an index on are moved up one level, the depth there and at each later index is one less
lower : (ns : List (ℕ × Item)) (place k : ℕ) → place ≤ k → slice_index (depths (map_from shallower place ns)) k ≡ slice_index (depths ns) k - 1
lower ns zero k l = all_lower ns k
lower [] (suc place) k l = omega arith
lower (n ∷ ns) (suc place) zero l = absurd (omega arith)
lower (n ∷ ns) (suc place) (suc k) l = lower ns place k (omega arith)

pub lower_length : (ns : List (ℕ × Item)) (place : ℕ) → length (map_from shallower place ns) ≡ length ns
lower_length ns place = map_from-length shallower place ns

last_place : (ds : List ℕ) (n d place r : ℕ) → IsLastBefore ds d n r → place < n → slice_index ds place ≡ d
    → ((k : ℕ) → place < k → k < n → d < slice_index ds k) → r ≡ place
last_place ds n d place r h l is deep = grind (arith, cases_eq, cases_lt)

abbrev at_place : ℕ → TreeIndex
at_place n = record { 0 = n }

moved_current : (g : Forest Item) (last : TreeIndex) → IsLastAt (depths g.nodes) (length g.spine + 2) last.0 → (moved_from g last.0).current ≡ Some last
moved_current g last h =
    let ns = map_from shallower last.0 g.nodes in
    let ds = depths ns in
    let d : ℕ = length g.spine + 1 in
    let n : ℕ = length ns in
    let old : n ≡ length (depths g.nodes) = lower_length g.nodes last.0 ∙ sym (length-map g.nodes (λ n. n.0)) in
    let l : last.0 < n = omega (arith, h.within, old) in
    let is : slice_index ds last.0 ≡ d = omega (arith, lower g.nodes last.0 last.0 (omega arith), h.depth) in
    let deep : (k : ℕ) → last.0 < k → k < n → d < slice_index ds k = λ k a b.
    omega (arith, lower g.nodes last.0 k (omega arith), h.following k a (omega (arith, old))) in
    let before = last_before-is ds d last.0 n l is (λ k a b. omega (arith, deep k a b)) in
    ap (λ k. Some (at_place k)) (last_place ds n d last.0 (last_before ds d n) before l is deep)

last_closed : (r : PassState) (e : ℕ) (ix last : TreeIndex) (rest : List TreeIndex) → IsForest r.tree → r.tree.spine ≡ ix ∷ rest → r.tree.current ≡ Some last
    → (let g : Forest Item = (popped_at e r (ix ∷ rest)).tree in IsLastAt (depths g.nodes) (length g.spine + 2) last.0)
last_closed r e ix last rest forest spine current =
    let f : Forest Item = closed_by r.tree e (ix ∷ rest) in
    let g : Forest Item = (popped_at e r (ix ∷ rest)).tree in
    let alike = closed_alike r f ix (body_at f.nodes ix.0) in
    let same : depths g.nodes ≡ depths r.tree.nodes = alike.depths_are ∙ depths-modify r.tree.nodes ix.0 (λ x. record x { «end» = e }) in
    let deep : length r.tree.spine + 1 ≡ length g.spine + 2 =
    omega (arith, ap (λ (s : List TreeIndex). length s) spine, ap (λ (s : List TreeIndex). length s) alike.spine_is) in
    subst (λ d. IsLastAt (depths g.nodes) d last.0) deep
    (subst (λ ds. IsLastAt ds (length r.tree.spine + 1) last.0) (sym same) (current_is_last r.tree last forest current))

closed_by_parts : (r : PassState) (e : ℕ) (s : List TreeIndex) (c : Option TreeIndex) → r.tree.spine ≡ s → r.tree.current ≡ c
    → definitions_closed e r ≡ current_moved (popped_at e r s) c
unfolding definitions_closed
closed_by_parts r e s c spine current = ap (λ s. current_moved (popped_at e r s) r.tree.current) spine ∙ ap (current_moved (popped_at e r s)) current

-- after the innermost open node is closed and its last child is moved out, that child is current
pub closed_current : (r : PassState) (e : ℕ) (ix last : TreeIndex) (rest : List TreeIndex) → IsForest r.tree → r.tree.spine ≡ ix ∷ rest
    → r.tree.current ≡ Some last → (definitions_closed e r).tree.current ≡ Some last
closed_current r e ix last rest forest spine current =
    ap (λ (q : PassState). q.tree.current) (closed_by_parts r e (ix ∷ rest) (Some last) spine current)
    ∙ moved_current (popped_at e r (ix ∷ rest)).tree last (last_closed r e ix last rest forest spine current)
