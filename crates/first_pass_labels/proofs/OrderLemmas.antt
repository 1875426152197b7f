-- The indices that a stable sort of a table's entries leaves are the table's order.
use Rattle.std.proofs.Common.{◌≡◌, ℕ, ◌<◌, Bool, true, false, cond, not, ◌&&◌, List, [], ◌∷◌, All, Option, None, Some, map, nat_eq, refl, sym, ap, ap₂, subst}
use Rattle.std.proofs.Common.{◌∙◌, ◌+◌, ◌++◌, take, length, get_or, filter, slice_get, IsPermutation, IsSorted, is_eq, is_lt, Ordering, Less, Equal, Greater}
use Rattle.std.proofs.lemmas.List.{take_more, map-append}
use Rattle.std.proofs.lemmas.Option.{slice_get-get_or}
use Rattle.std.proofs.lemmas.List.Elements.{All-head, All-push, All-tail}
use Rattle.std.proofs.lemmas.List.Filters.{dedup_is, All-dedup}
use Rattle.std.proofs.lemmas.List.Kept.{IsStrictlySortedBy-dedup}
use Rattle.std.proofs.lemmas.List.Sorted.{All-permutation}
use Rattle.std.specs.Cmp.{on_total, IsTotalOrder}
use Rattle.std.specs.Cmp.Lexicographic.{pointwise, texts_ties, bytes_decides, nat_list_cmp_total}
use Rattle.std.specs.List.{AllByRecursion, dedup, dedup_from}
use Rattle.std.specs.List.Retain.{IsFiltered, DiffersFromLast}
use Rattle.std.specs.List.Sorted.{IsStable, IsStrictlySortedBy, ties}
use Rattle.std.specs.Map.{keys_of}
use Rattle.std.specs.Ordering.{ordering_reverse}
use Rattle.first_pass_items.specs.declared.cow_str.CowStr.{CowStr}
use Rattle.first_pass_labels.specs.Foldings.{folding_of, label_cmp}
use Rattle.first_pass_labels.specs.LabelTables.{table_of, IsInOrder, IsOrderOf}
use Rattle.first_pass_labels.specs.Slots.{slot_folding, is_same_slot, slot_cmp}
use Rattle.first_pass_labels.proofs.FirstOfEach.{has, unique}
use Rattle.first_pass_labels.proofs.TextOrder.{label_of, entry_under, label_total, entry_of_table, in_order_table}

-- ---- a stable sort keeps the first entry of each label

ties_is : (o : Ordering) → (not (is_lt o) && not (is_lt (ordering_reverse o))) ≡ is_eq o
ties_is Less = refl
ties_is Equal = refl
ties_is Greater = refl

module _ {X : Type 0} where
  abbrev is_before : (CowStr × X) × ℕ → (CowStr × X) × ℕ → Bool
  is_before x y = is_lt (slot_cmp x y)

  abbrev entries_of : List ((CowStr × X) × ℕ) → List (CowStr × X)
  entries_of slots = map (λ s. s.0) slots

  abbrev first_entry : List ((CowStr × X) × ℕ) → Option (CowStr × X)
  first_entry [] = None
  first_entry (s ∷ ss) = Some s.0

  first_under : (d : CowStr × X) (ss : List ((CowStr × X) × ℕ))
      → entry_under (folding_of d.0) (entries_of ss) ≡ first_entry (filter (ties is_before (d, 0)) ss)
  first_under d [] = refl
  first_under d (s ∷ ss) =
      ap (λ c. cond c (Some s.0) (entry_under (folding_of d.0) (entries_of ss))) (sym tied)
      ∙ by _ (filter (ties is_before (d, 0)) ss) (ties is_before (d, 0) s) (first_under d ss)
    where
      tied : ties is_before (d, 0) s ≡ has folding_of label_of (folding_of d.0) s.0
      tied =
          ap (λ o. not (is_lt (label_cmp d.0 s.0.0)) && not (is_lt o)) (label_total.antisymm s.0.0 d.0)
          ∙ ties_is (label_cmp d.0 s.0.0) ∙ sym (texts_ties (folding_of d.0) (folding_of s.0.0))

      by : (o : Option (CowStr × X)) (l : List ((CowStr × X) × ℕ)) (b : Bool) → o ≡ first_entry l
          → cond b (Some s.0) o ≡ first_entry (cond b (s ∷ l) l)
      by o l true rest = refl
      by o l false rest = rest

  -- ---- and so does leaving out what is tied with the slot before

  once : (f : List ℕ) (k s : CowStr × X) (o : Option (CowStr × X)) (b : Bool) → has folding_of label_of f s ≡ b
      → cond b (Some k) o ≡ cond b (Some k) (cond (has folding_of label_of f s) (Some s) o)
  once f k s o true is = refl
  once f k s o false is = sym (ap (λ c. cond c (Some s) o) is)

  under_dedup_from : (f : List ℕ) (k : (CowStr × X) × ℕ) (ss : List ((CowStr × X) × ℕ))
      → entry_under f (entries_of (dedup_from is_same_slot k ss)) ≡ entry_under f (entries_of (k ∷ ss))
  under_dedup_from f k [] = refl
  under_dedup_from f k (s ∷ ss) = by (is_same_slot s k) refl (under_dedup_from f k ss) (under_dedup_from f s ss)
    where
      by : (b : Bool) → is_same_slot s k ≡ b
          → entry_under f (entries_of (dedup_from is_same_slot k ss)) ≡ entry_under f (entries_of (k ∷ ss))
          → entry_under f (entries_of (dedup_from is_same_slot s ss)) ≡ entry_under f (entries_of (s ∷ ss))
          → entry_under f (entries_of (cond b (dedup_from is_same_slot k ss) (k ∷ dedup_from is_same_slot s ss))) ≡ entry_under f (entries_of (k ∷ s ∷ ss))
      by true is first next =
          let level = (bytes_decides (slot_folding s) (slot_folding k)).0 is in
          first ∙ once f k.0 s.0 (entry_under f (entries_of ss)) (has folding_of label_of f k.0) (ap (pointwise nat_eq f) level)
      by false is first next = ap (λ o. cond (has folding_of label_of f k.0) (Some k.0) o) next

  under_dedup : (f : List ℕ) (ss : List ((CowStr × X) × ℕ)) → entry_under f (entries_of (dedup is_same_slot ss)) ≡ entry_under f (entries_of ss)
  under_dedup f [] = refl
  under_dedup f (s ∷ ss) = under_dedup_from f s ss

  -- ---- the order

  above_slots : (s : (CowStr × X) × ℕ) (ss : List ((CowStr × X) × ℕ)) → AllByRecursion (λ y. slot_cmp s y ≡ Less) ss
      → AllByRecursion (λ y. label_cmp s.0.0 y ≡ Less) (keys_of (entries_of ss))
  above_slots s [] all = tt
  above_slots s (y ∷ ss) all = (all.0, above_slots s ss all.1)

  slots_in_order : (ss : List ((CowStr × X) × ℕ)) → IsStrictlySortedBy slot_cmp ss → IsInOrder (entries_of ss)
  unfolding IsStrictlySortedBy
  slots_in_order [] order = tt
  slots_in_order (s ∷ ss) order = (above_slots s ss order.0, slots_in_order ss order.1)

  read_back : (es : List (CowStr × X)) (ss : List ((CowStr × X) × ℕ)) → All (λ s. slice_get es s.1 ≡ Some s.0) ss
      → map (slice_get es) (map (λ s. s.1) ss) ≡ map Some (entries_of ss)
  read_back es [] all = refl
  read_back es (s ∷ ss) all =
      ap₂ ◌∷◌ (All-head (λ s. slice_get es s.1 ≡ Some s.0) s ss all) (read_back es ss (All-tail (λ s. slice_get es s.1 ≡ Some s.0) s ss all))

  pub order_is : (es : List (CowStr × X)) (slots sorted kept : List ((CowStr × X) × ℕ)) → entries_of slots ≡ es
      → All (λ s. slice_get es s.1 ≡ Some s.0) slots → IsPermutation slots sorted → IsSorted slot_cmp sorted → IsStable slot_cmp slots sorted
      → IsFiltered (DiffersFromLast is_same_slot) [] sorted kept → IsOrderOf (map (λ s. s.1) kept) es (table_of es)
  order_is es slots sorted kept all placed moved order stable filtered =
      let total : IsTotalOrder slot_cmp = on_total slot_folding nat_list_cmp_total in
      let is : kept ≡ dedup is_same_slot sorted = dedup_is is_same_slot sorted kept filtered in
      let P : (CowStr × X) × ℕ → Type 0 = λ s. slice_get es s.1 ≡ Some s.0 in
      let still = All-dedup is_same_slot P sorted (All-permutation P slots sorted moved placed) in
      let up = slots_in_order (dedup is_same_slot sorted)
      (IsStrictlySortedBy-dedup total {E = is_same_slot} (λ x y. texts_ties (slot_folding x) (slot_folding y)) sorted order) in
      let table : entries_of (dedup is_same_slot sorted) ≡ table_of es =
      unique folding_of label_of (entries_of (dedup is_same_slot sorted)) (table_of es) up (in_order_table es)
      (λ d. under_dedup (folding_of d.0) sorted ∙ first_under d sorted ∙ ap first_entry (stable (d, 0)) ∙ sym (first_under d slots)
      ∙ ap (entry_under (folding_of d.0)) all ∙ sym (entry_of_table (folding_of d.0) es)) in
      ap (λ l. map (slice_get es) (map (λ s. s.1) l)) is ∙ read_back es (dedup is_same_slot sorted) still ∙ ap (map Some) table

  -- ---- the loops: one more slot, and one more index

  pub slots_more : (es : List (CowStr × X)) (i : ℕ) (d : CowStr × X) (slots more : List ((CowStr × X) × ℕ)) (s : (CowStr × X) × ℕ) → i < length es
      → more ≡ slots ++ s ∷ [] → s ≡ (get_or es i d, i) → entries_of slots ≡ take i es → All (λ s. slice_get es s.1 ≡ Some s.0) slots
      → (entries_of more ≡ take (i + 1) es) × All (λ s. slice_get es s.1 ≡ Some s.0) more
  slots_more es i d slots more s lt is at same placed =
      let P : (CowStr × X) × ℕ → Type 0 = λ s. slice_get es s.1 ≡ Some s.0 in (
        ap entries_of is ∙ map-append (λ (s : (CowStr × X) × ℕ). s.0) slots (s ∷ [])
            ∙ ap₂ (λ l (e : CowStr × X). l ++ e ∷ []) same (ap (λ (t : (CowStr × X) × ℕ). t.0) at)
            ∙ sym (take_more es i d lt),
        subst (All P) (sym is) (All-push P slots s placed (subst P (sym at) (slice_get-get_or es i d lt))),
      )

  pub indices_more : (slots : List ((CowStr × X) × ℕ)) (i : ℕ) (d : (CowStr × X) × ℕ) (order more : List ℕ) (n : ℕ) → i < length slots
      → more ≡ order ++ n ∷ [] → n ≡ (get_or slots i d).1 → order ≡ map (λ s. s.1) (take i slots) → more ≡ map (λ s. s.1) (take (i + 1) slots)
  indices_more slots i d order more n lt is at same =
      is ∙ ap₂ (λ l (m : ℕ). l ++ m ∷ []) same at ∙ sym (map-append (λ (s : (CowStr × X) × ℕ). s.1) (take i slots) (get_or slots i d ∷ []))
      ∙ ap (map (λ s. s.1)) (sym (take_more slots i d lt))
