-- The places of a table's entries: what a search compares, and what an iterator gives first.
use Rattle.std.proofs.Common.{◌≡◌, ℕ, ◌+◌, ◌≤◌, ◌<◌, List, [], ◌∷◌, Option, None, Some, length, map, refl, sym, ap, ap₂, subst, inl, inr, drop, ◌∙◌, arith}
use Rattle.std.proofs.Common.{not-suc-le-zero, get_or, take, ◌-◌, length-drop, take_all, option_map, slice_get, nat_cmp, Less, Equal, Greater}
use Rattle.std.proofs.lemmas.Bool.{cases_lt}
use Rattle.std.proofs.lemmas.List.{drop-map, length-map, drop_all}
use Rattle.std.proofs.lemmas.Option.{none-some, same_Some, slice_get-get_or, slice_get_within, slice_get-map, get_or_from_slice_get}
use Rattle.std.proofs.lemmas.Map.Entries.{lookup_from_place}
use Rattle.std.proofs.lemmas.Map.Keys.{Less-from_sorted, IsDistinct-from_sorted}
use Rattle.std.specs.Cmp.{eq_by_cmp_equiv}
use Rattle.std.specs.Cmp.Lexicographic.{slice_cmp}
use Rattle.first_pass_labels.proofs.FirstOfEach.{tied_same}
use Rattle.std.specs.Map.{keys_of, lookup}
use Rattle.std.specs.Ordering.{ordering_reverse}
use Rattle.std.specs.BTreeMap.{is_at}
use Rattle.first_pass_items.specs.declared.cow_str.CowStr.{CowStr}
use Rattle.first_pass_labels.specs.Foldings.{folding_of, label_cmp}
use Rattle.first_pass_labels.specs.LabelTables.{table_of, after_label, with_all, IsInOrder, IsOrderOf}
use Rattle.first_pass_labels.proofs.SortedLemmas.{after_first}
use Rattle.first_pass_labels.proofs.TextOrder.{label_total}

-- ---- what an order names

-- the place that an order names at k is in the list, and has the entry of the table at k
pub record Named {X : Type 0} (es tab : List (CowStr × X)) (order : List ℕ) (k : ℕ) : Type 0 where
  pub entry : CowStr × X
  pub in_table : slice_get tab k ≡ Some entry
  pub within : get_or order k 0 < length es
  pub reads : (d : CowStr × X) → get_or es (get_or order k 0) d ≡ entry

pub named : {X : Type 0} (es tab : List (CowStr × X)) (order : List ℕ) (k : ℕ) → IsOrderOf order es tab → k < length order → Named es tab order k
named {X} es tab order k is lt =
    by (slice_get tab k) refl
    (ap (option_map (slice_get es)) (sym (slice_get-get_or order k 0 lt)) ∙ sym (slice_get-map (slice_get es) order k) ∙ ap (λ l. slice_get l k) is
    ∙ slice_get-map Some tab k)
  where
    by : (o : Option (CowStr × X)) → slice_get tab k ≡ o → Some (slice_get es (get_or order k 0)) ≡ option_map Some o → Named es tab order k
    by None none same = absurd (none-some _ (sym same))
    by (Some e) here same =
        let at = same_Some (slice_get es (get_or order k 0)) (Some e) same in
        record {
          entry = e;
          in_table = here;
          within = slice_get_within es (get_or order k 0) e at;
          reads = λ d. get_or_from_slice_get es (get_or order k 0) e d at;
        }

pub past_end : {X : Type 0} (es tab : List (CowStr × X)) (order : List ℕ) (j : ℕ) (e : CowStr × X) → IsOrderOf order es tab → length order ≤ j
    → slice_get tab j ≡ Some e → ⊥
past_end es tab order j e is le at =
    not-suc-le-zero {n = 0} (omega (arith, le, ap length is, length-map order (slice_get es), length-map tab Some, slice_get_within tab j e at))

table_rest : {X : Type 0} (tab : List (CowStr × X)) (e : CowStr × X) → slice_get tab 0 ≡ Some e → tab ≡ e ∷ drop 1 tab
table_rest [] e h = absurd (none-some e h)
table_rest (x ∷ tab) e h = ap (λ y. y ∷ tab) (same_Some x e h)

pub no_first : {X : Type 0} (xs : List X) → slice_get xs 0 ≡ None → xs ≡ []
no_first [] h = refl
no_first (x ∷ xs) h = absurd (none-some x (sym h))

-- ---- places of a table in order

module _ {X : Type 0} where
  key_at : (tab : List (CowStr × X)) (k : ℕ) (e : CowStr × X) → slice_get tab k ≡ Some e → slice_get (keys_of tab) k ≡ Some e.0
  key_at tab k e at = slice_get-map (λ (d : CowStr × X). d.0) tab k ∙ ap (option_map (λ d. d.0)) at

  places : (tab : List (CowStr × X)) (j k : ℕ) (d e : CowStr × X) → IsInOrder tab → j < k → slice_get tab j ≡ Some d → slice_get tab k ≡ Some e
      → label_cmp d.0 e.0 ≡ Less
  places tab j k d e order lt p q =
      ap₂ label_cmp (sym (get_or_from_slice_get (keys_of tab) j d.0 d.0 (key_at tab j d p)))
      (sym (get_or_from_slice_get (keys_of tab) k e.0 d.0 (key_at tab k e q)))
      ∙ Less-from_sorted label_cmp (keys_of tab) j k d.0 order lt (slice_get_within (keys_of tab) k e.0 (key_at tab k e q))

  module _ (key : CowStr) (tab : List (CowStr × X)) (order : IsInOrder tab) (m : ℕ) (d : CowStr × X) (here : slice_get tab m ≡ Some d) where
    pub below_more : label_cmp key d.0 ≡ Greater → (j : ℕ) (e : CowStr × X) → j < m + 1 → slice_get tab j ≡ Some e → label_cmp key e.0 ≡ Greater
    below_more more j e lt at =
        elim (cases_lt j m) [
          | inl before ↦
              let less = label_total.trans e.0 d.0 key (places tab j m e d order before at here) (label_total.antisymm d.0 key ∙ ap ordering_reverse more) in
              label_total.antisymm key e.0 ∙ ap ordering_reverse less
          | inr last ↦
              let level : m ≡ j = omega (arith, last, lt) in
              subst (λ (c : CowStr × X). label_cmp key c.0 ≡ Greater) (same_Some d e (sym here ∙ ap (slice_get tab) level ∙ at)) more
        ]

    pub above_more : label_cmp key d.0 ≡ Less → (j : ℕ) (e : CowStr × X) → m ≤ j → slice_get tab j ≡ Some e → label_cmp key e.0 ≡ Less
    above_more less j e le at =
        elim (cases_lt m j) [
          | inl after ↦ label_total.trans key d.0 e.0 less (places tab m j d e order after here at)
          | inr last ↦
              let level : m ≡ j = omega (arith, last, le) in
              subst (λ (c : CowStr × X). label_cmp key c.0 ≡ Less) (same_Some d e (sym here ∙ ap (slice_get tab) level ∙ at)) less
        ]

  pub found_at : (key : CowStr) (tab : List (CowStr × X)) (m : ℕ) (d : CowStr × X) → IsInOrder tab → slice_get tab m ≡ Some d → label_cmp key d.0 ≡ Equal
      → lookup (is_at (label_cmp key)) tab ≡ Some d.1
  found_at key tab m d order here tied =
      ap (λ f. lookup (is_at (λ l. slice_cmp nat_cmp f (folding_of l))) tab) (tied_same folding_of key d.0 tied)
      ∙ lookup_from_place (eq_by_cmp_equiv label_total) tab m d.0 d.1 (IsDistinct-from_sorted label_cmp (keys_of tab) order) here

-- ---- one step through a table

pub table_step : {X : Type 0} (last : Option CowStr) (es : List (CowStr × X)) (e : CowStr × X) → Some e ≡ slice_get (table_of (after_label last es)) 0
    → table_of (after_label last es) ≡ e ∷ table_of (after_label (Some e.0) es)
table_step last es e first =
    let tab = table_of (after_label last es) in
    let split = table_rest tab e (sym first) in
    split ∙ ap (λ r. e ∷ r) (after_first last es e (drop 1 tab) split)

-- `left` has the entries after a step by the order
module _ {X : Type 0} (last : Option CowStr) (es left : List (CowStr × X)) (order : List ℕ)
    (is : IsOrderOf order es (table_of (after_label last es))) (some : 0 < length order)
    (e : CowStr × X) (here : e ≡ get_or es (get_or order 0 0) e) (more : 1 < length order → left ≡ es) (none : length order ≤ 1 → left ≡ []) where
  abbrev tab : List (CowStr × X)
  tab = table_of (after_label last es)

  split : tab ≡ e ∷ drop 1 tab
  split = let n = named es tab order 0 is some in table_rest tab e (n.in_table ∙ ap Some (sym (here ∙ n.reads e)))

  rest_is : drop 1 tab ≡ table_of (after_label (Some e.0) es)
  rest_is = after_first last es e (drop 1 tab) split

  left_is : table_of (after_label (Some e.0) es) ≡ table_of (after_label (Some e.0) left)
  unfolding with_all
  left_is =
      elim (cases_lt 1 (length order)) [
        | inl long ↦ ap (λ l. table_of (after_label (Some e.0) l)) (sym (more long))
        | inr short ↦
            let few : length order ≤ 1 = omega (arith, short) in
            let one : length tab ≤ 1 = omega (arith, few, ap length is, length-map order (slice_get es), length-map tab Some) in
            sym rest_is ∙ drop_all 1 tab one ∙ sym (ap (λ l. table_of (after_label (Some e.0) l)) (none few))
      ]

  pub order_step : tab ≡ e ∷ table_of (after_label (Some e.0) left)
  order_step = split ∙ ap (λ r. e ∷ r) (rest_is ∙ left_is)

  pub order_left : 0 < length (take (length order - 1) (drop 1 order))
      → IsOrderOf (take (length order - 1) (drop 1 order)) left (table_of (after_label (Some e.0) left))
  order_left any =
      let same : take (length order - 1) (drop 1 order) ≡ drop 1 order = take_all (length order - 1) (drop 1 order) (omega (arith, length-drop 1 order)) in
      let long : 1 < length order = omega (arith, any, ap length same, length-drop 1 order) in
      subst (λ o. IsOrderOf o left (table_of (after_label (Some e.0) left))) (sym same)
      (subst (λ (l : List (CowStr × X)). IsOrderOf (drop 1 order) l (table_of (after_label (Some e.0) l))) (sym (more long))
      (sym (drop-map (slice_get es) 1 order) ∙ ap (drop 1) is ∙ drop-map Some 1 tab ∙ ap (map Some) rest_is))
