-- Records written from the last to the first.
use Rattle.std.proofs.Common.{◌≡◌, ◌≢◌, ℕ, zero, suc, inl, inr, ◌+◌, ◌-◌, ◌<◌, ◌≤◌, List, [], ◌∷◌, ◌++◌, length, take, drop, get_or, slice_get, Some, All}
use Rattle.std.proofs.Common.{Option, set, refl, sym, ap, subst, ◌∙◌, add-zero, length-append, length-set, drop-cons, unwrap_or, arith, flat_map}
use Rattle.std.proofs.Common.{option_map, get_or-set_same, get_or-set_other, take_all}
use Rattle.first_pass_grammar.proofs.Common.{cases_eq, drop_all, slice_get_within, slice_get-get_or, Item, Names}
use Rattle.std.proofs.lemmas.List.{drop-set}
use Rattle.std.proofs.lemmas.Option.{get_or_from_slice_get}
use Rattle.first_pass_c.specs.FlatAttributes.{attributes_by}
use Rattle.first_pass_c.specs.FlatNodes.{IsShort, deeper_before, first_place, flat_node, flat_nodes, name_by, place_after}
use Rattle.first_pass_c.specs.Linked.{AreLinked, depth_at}
use Rattle.first_pass_c.specs.WrittenNodes.{IsRecordWritten, NeedsMoreBits}
use Rattle.first_pass_c.specs.declared.flat.nodes.FlatPlace.{FlatPlace}
use Rattle.first_pass_c.specs.declared.flat.records.FlatNode.{FlatNode}
use Rattle.first_pass_c.proofs.Appending.{flat_more}

-- a list from an element on
cut_at : {X : Type 0} (xs : List X) (k : ℕ) (x : X) → slice_get xs k ≡ Some x → drop k xs ≡ x ∷ drop (k + 1) xs
cut_at xs k x here =
    let inside = slice_get_within xs k x here in
    let one : suc k ≡ k + 1 = omega arith in
    drop-cons xs k x inside ∙ ap (λ y. y ∷ drop (suc k) xs) (get_or_from_slice_get xs k x x here) ∙ ap (λ i. x ∷ drop i xs) one

more_of : {X : Type 0} (f : ℕ × Item → List X) (nodes : List (ℕ × Item)) (k : ℕ) (n : ℕ × Item) → slice_get nodes k ≡ Some n
    → length (flat_map f (take (k + 1) nodes)) ≡ length (flat_map f (take k nodes)) + length (f n)
more_of f nodes k n here =
    let inside = slice_get_within nodes k n here in
    let is : get_or nodes k n ≡ n = get_or_from_slice_get nodes k n n here in
    ap length (sym (flat_more f nodes k n inside) ∙ ap (λ m. flat_map f (take k nodes) ++ f m) is) ∙ length-append (flat_map f (take k nodes)) (f n)

place_by : (k k' a a' b b' : ℕ) → k ≡ k' → a ≡ a' → b ≡ b'
    → ◌≡◌ {A = FlatPlace} (record { node = k; name = a; attribute = b }) (record { node = k'; name = a'; attribute = b' })
place_by k k' a a' b b' e f g = cc

-- the place after the first k nodes from a place on
abbrev place_from : Names → FlatPlace → List (ℕ × Item) → ℕ → FlatPlace
place_from names at nodes k = record {
  node = at.node + k;
  name = at.name + length (flat_map (name_by names) (take k nodes));
  attribute = at.attribute + length (flat_map (attributes_by names) (take k nodes));
}

place_more : (names : Names) (at : FlatPlace) (nodes : List (ℕ × Item)) (k : ℕ) (n : ℕ × Item) → slice_get nodes k ≡ Some n
    → place_from names at nodes (k + 1) ≡ place_after names n.1.body (place_from names at nodes k)
place_more names at nodes k n here =
    place_by _ _ _ _ _ _ (omega arith) (omega (arith, more_of (name_by names) nodes k n here)) (omega (arith, more_of (attributes_by names) nodes k n here))

-- the place before a node, from the place after it
place_back : (names : Names) (nodes : List (ℕ × Item)) (at before : FlatPlace) (n : ℕ × Item) → at ≡ place_from names first_place nodes at.node
    → at ≡ place_after names n.1.body before → slice_get nodes before.node ≡ Some n → before ≡ place_from names first_place nodes before.node
place_back names nodes at before n place_is at_is here =
    let k_is : at.node ≡ before.node + 1 = ap (λ (p : FlatPlace). p.node) at_is in
    let both : place_after names n.1.body before ≡ place_after names n.1.body (place_from names first_place nodes before.node) =
    sym at_is ∙ place_is ∙ ap (place_from names first_place nodes) k_is ∙ place_more names first_place nodes before.node n here in
    let name_at = ap (λ (p : FlatPlace). p.name) both in
    let attribute_at = ap (λ (p : FlatPlace). p.attribute) both in
    place_by before.node _ before.name _ before.attribute _ (omega arith) (omega arith) (omega arith)

-- the records from a place on are written
pub record AreFilled (names : Names) (nodes : List (ℕ × Item)) (flat : List FlatNode) (at : FlatPlace) : Type 0 where
  pub within : at.node ≤ length nodes
  pub room : length flat ≡ length nodes
  pub place_is : at ≡ place_from names first_place nodes at.node
  pub written : drop at.node flat ≡ flat_nodes names at (drop at.node nodes)
  pub linked : AreLinked nodes flat at.node

pub none_filled : (names : Names) (nodes : List (ℕ × Item)) (flat : List FlatNode) (at : FlatPlace) → length flat ≡ length nodes → at.node ≡ length nodes
    → at.name ≡ length (flat_map (name_by names) nodes) → at.attribute ≡ length (flat_map (attributes_by names) nodes) → AreFilled names nodes flat at
unfolding flat_nodes
none_filled names nodes flat at room last name attribute =
    let whole : take at.node nodes ≡ nodes = take_all at.node nodes (omega arith) in
    let none : drop at.node nodes ≡ [] = drop_all at.node nodes (omega arith) in
    record {
      within = omega arith;
      room = room;
      place_is = place_by at.node _ at.name _ at.attribute _ (omega arith)
          (let is = name ∙ ap (λ l. length (flat_map (name_by names) l)) (sym whole) in omega arith)
          (let is = attribute ∙ ap (λ l. length (flat_map (attributes_by names) l)) (sym whole) in omega arith);
      written = drop_all at.node flat (omega arith) ∙ sym (ap (flat_nodes names at) none);
      linked = λ k n r h e f. let inside = slice_get_within nodes k n e in absurd (omega arith);
    }

-- another element of a list in which one is set
in_set : {X : Type 0} (xs : List X) (i j : ℕ) (y x : X) → slice_get (set xs i y) j ≡ Some x → j ≢ i → slice_get xs j ≡ Some x
in_set xs i j y x e ne =
    let inside = slice_get_within (set xs i y) j x e in
    let same = length-set xs i y in
    let is : get_or xs j x ≡ x = sym (get_or-set_other xs i j y x ne) ∙ get_or_from_slice_get (set xs i y) j x x e in
    slice_get-get_or xs j x (omega arith) ∙ ap Some is

-- the links of the records after one more is written
linked_more : (nodes : List (ℕ × Item)) (flat : List FlatNode) (k : ℕ) (n : ℕ × Item) (r : FlatNode) → k < length flat → slice_get nodes k ≡ Some n
    → r.next ≡ (k + 1) + deeper_before n.0 (drop (k + 1) nodes) → AreLinked nodes flat (k + 1) → AreLinked nodes (set flat k r) k
linked_more nodes flat k n r room here next_is linked j m s low e f =
    elim (cases_eq j k) [
      | inl same ↦
          let there : slice_get nodes j ≡ Some n = ap (slice_get nodes) same ∙ here in
          let node : m ≡ n = cc in
          let row : r ≡ s = sym (get_or-set_same flat k r s room) ∙ get_or_from_slice_get (set flat k r) k s s (ap (slice_get (set flat k r)) (sym same) ∙ f) in
          rw (← row, node, same) next_is
      | inr other ↦ linked j m s (omega arith) e (in_set flat k j r s f other)
    ]

-- one more record is written
pub one_filled : (names : Names) (nodes : List (ℕ × Item)) (flat : List FlatNode) (at before : FlatPlace) (n : ℕ × Item) (r : FlatNode)
    → AreFilled names nodes flat at → at ≡ place_after names n.1.body before → slice_get nodes before.node ≡ Some n
    → r ≡ flat_node names before n (drop at.node nodes) → AreFilled names nodes (set flat before.node r) before
unfolding flat_nodes
one_filled names nodes flat at before n r f at_is here r_is =
    let k_is : at.node ≡ before.node + 1 = ap (λ (p : FlatPlace). p.node) at_is in
    let inside = slice_get_within nodes before.node n here in
    let room = f.room in
    let later : drop (before.node + 1) nodes ≡ drop at.node nodes = ap (λ k. drop k nodes) (sym k_is) in
    let rest : drop (before.node + 1) flat ≡ flat_nodes names (place_after names n.1.body before) (drop at.node nodes) =
    ap (λ k. drop k flat) (sym k_is) ∙ f.written ∙ ap (λ p. flat_nodes names p (drop at.node nodes)) at_is in
    let cut : drop before.node nodes ≡ n ∷ drop at.node nodes = cut_at nodes before.node n here ∙ ap (λ l. n ∷ l) later in
    record {
      within = omega arith;
      room = length-set flat before.node r ∙ room;
      place_is = place_back names nodes at before n f.place_is at_is here;
      written =
          drop-set flat before.node r (omega arith) ∙ ap (λ l. r ∷ l) rest
          ∙ ap (λ x. x ∷ flat_nodes names (place_after names n.1.body before) (drop at.node nodes)) r_is
          ∙ sym (ap (flat_nodes names before) cut);
      linked =
          linked_more nodes flat before.node n r (omega arith) here
          (ap (λ (x : FlatNode). x.next) r_is ∙ ap (λ l. (before.node + 1) + deeper_before n.0 l) (sym later))
          (subst (AreLinked nodes flat) k_is f.linked);
    }

pub records_counted : (names : Names) (at : FlatPlace) (nodes : List (ℕ × Item)) → length (flat_nodes names at nodes) ≡ length nodes
unfolding flat_nodes
records_counted names at [] = refl
records_counted names at (x ∷ nodes) = ap suc (records_counted names (place_after names x.1.body at) nodes)

-- the record of a node
record_at : (names : Names) (at : FlatPlace) (nodes : List (ℕ × Item)) (k : ℕ) (n : ℕ × Item) (d : FlatNode) → slice_get nodes k ≡ Some n
    → get_or (flat_nodes names at nodes) k d ≡ flat_node names (place_from names at nodes k) n (drop (suc k) nodes)
unfolding flat_nodes
record_at names at [] k n d e = cc
record_at names at (x ∷ nodes) zero n d e =
    let is : x ≡ n = cc in
    ap (λ m. flat_node names at m nodes) is
    ∙ ap (λ p. flat_node names p n nodes) (place_by _ _ _ _ _ _ (sym (add-zero at.node)) (sym (add-zero at.name)) (sym (add-zero at.attribute)))
record_at names at (x ∷ nodes) (suc k) n d e =
    let name_length = length-append (name_by names x) (flat_map (name_by names) (take k nodes)) in
    let attributes_length = length-append (attributes_by names x) (flat_map (attributes_by names) (take k nodes)) in
    record_at names (place_after names x.1.body at) nodes k n d e
    ∙ ap (λ p. flat_node names p n (drop (suc k) nodes)) (place_by _ _ _ _ _ _ (omega arith) (omega arith) (omega arith))

-- if every record is short, so is the one that is written next
pub short_before : (names : Names) (nodes : List (ℕ × Item)) (flat : List FlatNode) (at before : FlatPlace) (n : ℕ × Item)
    → AreFilled names nodes flat at → at ≡ place_after names n.1.body before → slice_get nodes before.node ≡ Some n
    → All IsShort (flat_nodes names first_place nodes) → IsShort (flat_node names before n (drop at.node nodes))
short_before names nodes flat at before n f at_is here all =
    let last : suc before.node ≡ at.node = (let k_is = ap (λ (p : FlatPlace). p.node) at_is in omega arith) in
    let inside = slice_get_within nodes before.node n here in
    let count = records_counted names first_place nodes in
    let other = flat_node names before n nodes in
    let is : get_or (flat_nodes names first_place nodes) before.node other ≡ flat_node names before n (drop at.node nodes) =
    record_at names first_place nodes before.node n other here
    ∙ ap (λ p. flat_node names p n (drop (suc before.node) nodes)) (sym (place_back names nodes at before n f.place_is at_is here))
    ∙ ap (λ k. flat_node names before n (drop k nodes)) last in
    subst IsShort is (all before.node other (omega arith))

-- the node that is written next
here_before : (names : Names) (nodes : List (ℕ × Item)) (at before : FlatPlace) (n : ℕ × Item) → 0 < at.node → at.node ≤ length nodes
    → at ≡ place_after names (get_or nodes (at.node - 1) n).1.body before → slice_get nodes before.node ≡ Some (get_or nodes (at.node - 1) n)
here_before names nodes at before n h within e =
    let k_is : at.node ≡ before.node + 1 = ap (λ (p : FlatPlace). p.node) e in
    let same : at.node - 1 ≡ before.node = omega arith in
    subst (λ k. slice_get nodes k ≡ Some (get_or nodes (at.node - 1) n)) same (slice_get-get_or nodes (at.node - 1) n (omega arith))

-- The next record is written.
pub record_written : (names : Names) (nodes : List (ℕ × Item)) (flat new : List FlatNode) (at before : FlatPlace) (n : ℕ × Item) (next : ℕ)
    → AreFilled names nodes flat at → 0 < at.node → next ≡ at.node + deeper_before (get_or nodes (at.node - 1) n).0 (drop at.node nodes)
    → IsRecordWritten names (get_or nodes (at.node - 1) n) next flat new (before, at) → AreFilled names nodes new before
record_written names nodes flat new at before n next f h next_is w =
    subst (λ l. AreFilled names nodes l before) (sym (w.written (drop at.node nodes) next_is))
    (one_filled names nodes flat at before (get_or nodes (at.node - 1) n) (flat_node names before (get_or nodes (at.node - 1) n) (drop at.node nodes)) f w.place
    (here_before names nodes at before n h f.within w.place) refl)

-- the depth of the node whose record was written
pub depth_kept : (names : Names) (nodes : List (ℕ × Item)) (flat new : List FlatNode) (at before : FlatPlace) (n : ℕ × Item) (next : ℕ)
    → AreFilled names nodes flat at → 0 < at.node → IsRecordWritten names (get_or nodes (at.node - 1) n) next flat new (before, at)
    → (get_or nodes (at.node - 1) n).0 ≡ depth_at nodes before.node
depth_kept names nodes flat new at before n next f h w =
    ap (λ (o : Option (ℕ × Item)). unwrap_or (option_map (λ m. m.0) o) 0) (sym (here_before names nodes at before n h f.within w.place))

-- The next record isn't short.
pub record_long : (names : Names) (nodes : List (ℕ × Item)) (flat : List FlatNode) (at : FlatPlace) (n : ℕ × Item) (next : ℕ) → AreFilled names nodes flat at
    → 0 < at.node → next ≡ at.node + deeper_before (get_or nodes (at.node - 1) n).0 (drop at.node nodes)
    → NeedsMoreBits names (get_or nodes (at.node - 1) n) next at → All IsShort (flat_nodes names first_place nodes) → ⊥
record_long names nodes flat at n next f h next_is long all =
    let within = f.within in
    let one : at.node ≡ (at.node - 1) + 1 = omega arith in
    let here = slice_get-get_or nodes (at.node - 1) n (omega arith) in
    let e = f.place_is ∙ ap (place_from names first_place nodes) one
    ∙ place_more names first_place nodes (at.node - 1) (get_or nodes (at.node - 1) n) here in
    long _ (drop at.node nodes) e next_is
    (short_before names nodes flat at _ (get_or nodes (at.node - 1) n) f e (here_before names nodes at _ n h f.within e) all)
