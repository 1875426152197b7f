-- The first later node that is not deeper.
use Rattle.std.proofs.Common.{◌≡◌, ℕ, zero, suc, ◌+◌, ◌-◌, ◌<◌, ◌≤◌, Bool, true, List, length, drop, get_or, slice_get, unwrap_or, Option, Some, inl, inr}
use Rattle.std.proofs.Common.{refl, sym, ap, ◌∙◌, zero-add, nat_lt, length-drop, arith, le-ltb, lt-ltb, ltb-true, drop-drop, option_map}
use Rattle.first_pass_grammar.proofs.Common.{cases_lt, slice_get_past, slice_get_within, slice_get-get_or, prefix_len-le-length, prefix_len, Item}
use Rattle.std.proofs.lemmas.Option.{slice_get_cases, get_or_from_slice_get}
use Rattle.std.proofs.lemmas.List.Sums.{prefix_len-drop_all, prefix_len-drop_no, prefix_len-drop_yes, prefix_len_passes}
use Rattle.first_pass_c.specs.FlatNodes.{deeper_before}
use Rattle.first_pass_c.specs.Linked.{AreLinked, depth_at}
use Rattle.first_pass_c.specs.declared.flat.records.FlatNode.{FlatNode}

-- The run of elements that pass a test continues after each part of the run of those that pass a stricter one.
run_past : {X : Type 0} (p q : X → Bool) (d : X) (xs : List X) → ((x : X) → q x ≡ true → p x ≡ true) → (k : ℕ) → k ≤ prefix_len q xs
    → prefix_len p xs ≡ k + prefix_len p (drop k xs)
run_past p q d xs h zero few = sym (zero-add (prefix_len p xs))
run_past p q d xs h (suc k) few =
    let inside = prefix_len-le-length q xs in
    let passes = h (get_or xs k d) (prefix_len_passes q xs k d (omega arith)) in
    let one : k + 1 ≡ suc k = omega arith in
    let step : prefix_len p (drop k xs) ≡ 1 + prefix_len p (drop (suc k) xs) = rw one at (prefix_len-drop_yes p xs k d (omega arith) passes) in
    omega (arith, run_past p q d xs h k (omega arith))

-- The run of nodes deeper than `depth` that begins at `from` ends where the one that begins at a later place ends.
pub record GoesOn (nodes : List (ℕ × Item)) (depth from at : ℕ) : Type 0 where
  pub following : from ≤ at
  pub within : at ≤ length nodes
  pub same : from + deeper_before depth (drop from nodes) ≡ at + deeper_before depth (drop at nodes)

-- One deeper node and its descendants are passed.
pub one_passed : (nodes : List (ℕ × Item)) (depth from at next : ℕ) (n : ℕ × Item) → slice_get nodes at ≡ Some n → depth < n.0
    → next ≡ (at + 1) + deeper_before n.0 (drop (at + 1) nodes) → GoesOn nodes depth from at → (at < next) × GoesOn nodes depth from next
one_passed nodes depth from at next n here deeper next_is g =
    let inside : at < length nodes = slice_get_within nodes at n here in
    let is : get_or nodes at n ≡ n = get_or_from_slice_get nodes at n n here in
    let passes : nat_lt depth (get_or nodes at n).0 ≡ true = ap (λ m. nat_lt depth m.0) is ∙ lt-ltb depth n.0 deeper in
    let step : deeper_before depth (drop at nodes) ≡ 1 + deeper_before depth (drop (at + 1) nodes) =
    prefix_len-drop_yes (λ m. nat_lt depth m.0) nodes at n inside passes in
    let further : deeper_before depth (drop (at + 1) nodes)
    ≡ deeper_before n.0 (drop (at + 1) nodes) + deeper_before depth (drop (deeper_before n.0 (drop (at + 1) nodes)) (drop (at + 1) nodes)) =
    run_past (λ m. nat_lt depth m.0) (λ m. nat_lt n.0 m.0) n (drop (at + 1) nodes)
    (λ m t. let less = ltb-true n.0 m.0 t in lt-ltb depth m.0 (omega arith)) (deeper_before n.0 (drop (at + 1) nodes)) (omega arith) in
    let there : drop (deeper_before n.0 (drop (at + 1) nodes)) (drop (at + 1) nodes) ≡ drop next nodes =
    drop-drop (deeper_before n.0 (drop (at + 1) nodes)) (at + 1) nodes ∙ ap (λ k. drop k nodes) (sym next_is) in
    let tail = ap (deeper_before depth) there in
    let most = prefix_len-le-length (λ (m : ℕ × Item). nat_lt n.0 m.0) (drop (at + 1) nodes) in
    let left = length-drop (at + 1) nodes in
    let front = g.same in
    let low = g.following in
    (omega arith, record { following = omega arith; within = omega arith; same = omega arith })

-- The node at a place is deeper, and its record has its next node: it and its descendants are passed, and fewer
-- nodes are left.
pub next_passed : (nodes : List (ℕ × Item)) (flat : List FlatNode) (depth from at : ℕ) (n : ℕ × Item) (r : FlatNode) → at < length nodes
    → length flat ≡ length nodes → depth < (get_or nodes at n).0 → AreLinked nodes flat from → GoesOn nodes depth from at
    → GoesOn nodes depth from (get_or flat at r).next × (length nodes - (get_or flat at r).next < length nodes - at)
next_passed nodes flat depth from at n r within same deeper linked g =
    let here = slice_get-get_or nodes at n within in
    let there = slice_get-get_or flat at r (omega arith) in
    let passed = one_passed nodes depth from at (get_or flat at r).next (get_or nodes at n) here deeper
    (linked at (get_or nodes at n) (get_or flat at r) g.following here there) g in
    (passed.1, omega (arith, passed.0, passed.1.within))

depth_within : (nodes : List (ℕ × Item)) (at : ℕ) (n : ℕ × Item) → at < length nodes → depth_at nodes at ≡ (get_or nodes at n).0
depth_within nodes at n h = ap (λ (o : Option (ℕ × Item)). unwrap_or (option_map (λ m. m.0) o) 0) (slice_get-get_or nodes at n h)

pub depth_past : (nodes : List (ℕ × Item)) (at : ℕ) → length nodes ≤ at → depth_at nodes at ≡ 0
depth_past nodes at h = ap (λ (o : Option (ℕ × Item)). unwrap_or (option_map (λ m. m.0) o) 0) (slice_get_past nodes at h)

-- No node from here on is passed, because the next one is not deeper.
pub none_passed : (nodes : List (ℕ × Item)) (depth at later : ℕ) → later ≡ depth_at nodes at → later ≤ depth → at ≡ at + deeper_before depth (drop at nodes)
none_passed nodes depth at later e h =
    elim (slice_get_cases nodes at).1 [
      | inl w ↦
          let is = depth_within nodes at w.0 w.1 in
          let none = prefix_len-drop_no (λ (m : ℕ × Item). nat_lt depth m.0) nodes at w.0 w.1 (le-ltb depth (get_or nodes at w.0).0 (omega arith)) in
          omega arith
      | inr w ↦ let none = prefix_len-drop_all (λ (m : ℕ × Item). nat_lt depth m.0) nodes at w.0 in omega arith
    ]

-- The node at a place is deeper, so there is one.
pub some_here : (nodes : List (ℕ × Item)) (depth at later : ℕ) → later ≡ depth_at nodes at → depth < later → at < length nodes
some_here nodes depth at later e h =
    elim (cases_lt at (length nodes)) [ inl inside ↦ inside | inr past ↦ let none = depth_past nodes at past in absurd (omega arith) ]

-- The first deeper node and its descendants are passed.
pub first_passed : (nodes : List (ℕ × Item)) (flat : List FlatNode) (depth from later : ℕ) (r : FlatNode) → later ≡ depth_at nodes from → depth < later
    → length flat ≡ length nodes → AreLinked nodes flat from → GoesOn nodes depth from (get_or flat from r).next
first_passed nodes flat depth from later r e h same linked =
    elim (slice_get_cases nodes from).1 [
      | inl w ↦
          let is = depth_within nodes from w.0 w.1 in
          let start : GoesOn nodes depth from from = record { following = omega arith; within = omega arith; same = refl } in
          (next_passed nodes flat depth from from w.0 r w.1 same (omega arith) linked start).0
      | inr w ↦ let none = depth_past nodes from w.0 in absurd (omega arith)
    ]
