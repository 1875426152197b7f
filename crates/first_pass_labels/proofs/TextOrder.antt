-- A table to which definitions are added one after the other gives the same results as the definitions in the order
-- of the text.
use Rattle.std.proofs.Common.{◌≡◌, ℕ, Bool, true, false, cond, List, [], ◌∷◌, ◌++◌, Option, Some, find, is_some, nat_eq, refl, sym, ap, subst, ◌∙◌}
use Rattle.std.proofs.Common.{Ordering, Less, Equal, Greater, option_map, is_eq}
use Rattle.std.specs.Cmp.{IsTotalOrder}
use Rattle.std.specs.Cmp.Lexicographic.{pointwise, bytes_decides}
use Rattle.std.specs.List.Sorted.{IsStrictlySortedBy}
use Rattle.std.specs.Map.{lookup}
use Rattle.std.specs.Ordering.{match_ordering}
use Rattle.std.specs.BTreeMap.{insert_entry, is_at}
use Rattle.std.proofs.lemmas.Map.{lookup-none}
use Rattle.std.proofs.lemmas.Map.Entries.{none_below_head}
use Rattle.first_pass_items.specs.declared.cow_str.CowStr.{CowStr}
use Rattle.first_pass_labels.specs.Foldings.{folding_of, is_same_label, label_cmp}
use Rattle.first_pass_labels.specs.LabelTables.{defined_under, with_first, with_all, table_of, IsInOrder}
use Rattle.first_pass_labels.proofs.FirstOfEach.{folding_total, has, put, put_all, up_put, up_all, under_all}
use Rattle.first_pass_labels.proofs.TableLemmas.{found_by_order}

pub same_folding : (x y : CowStr) → is_same_label x y ≡ true → folding_of x ≡ folding_of y
same_folding x y = (bytes_decides (folding_of x) (folding_of y)).0

pub folding_same : (x y : CowStr) → folding_of x ≡ folding_of y → is_same_label x y ≡ true
folding_same x y = (bytes_decides (folding_of x) (folding_of y)).1

pub label_total : IsTotalOrder label_cmp
label_total = folding_total folding_of

module _ {X : Type 0} where
  abbrev pub label_of : CowStr × X → CowStr
  label_of e = e.0

  -- the first entry under a folding, with its own label
  abbrev pub entry_under : List ℕ → List (CowStr × X) → Option (CowStr × X)
  entry_under f es = find (has folding_of label_of f) es

  cond_tail : (b : Bool) (e : CowStr × X) (es fs : List (CowStr × X)) → cond b (e ∷ es) (e ∷ fs) ≡ e ∷ cond b es fs
  cond_tail true e es fs = refl
  cond_tail false e es fs = refl

  put_is : (l : CowStr) (x : X) (es : List (CowStr × X)) → IsInOrder es
      → cond (is_some (lookup (is_at (label_cmp l)) es)) es (insert_entry label_cmp es l x) ≡ put folding_of label_of (l, x) es
  unfolding IsStrictlySortedBy
  put_is l x [] order = refl
  put_is l x (e ∷ es) order = by (label_cmp l e.0) refl (put_is l x es order.1)
    where
      found : Ordering → Option X
      found o = cond (is_eq o) (Some e.1) (lookup (is_at (label_cmp l)) es)

      by : (o : Ordering) → label_cmp l e.0 ≡ o
          → cond (is_some (lookup (is_at (label_cmp l)) es)) es (insert_entry label_cmp es l x) ≡ put folding_of label_of (l, x) es
          → cond (is_some (found o)) (e ∷ es) (match_ordering o ((l, x) ∷ e ∷ es) ((e.0, x) ∷ es) (e ∷ insert_entry label_cmp es l x))
          ≡ match_ordering o ((l, x) ∷ e ∷ es) (e ∷ es) (e ∷ put folding_of label_of (l, x) es)
      by Less is rest =
          ap (λ o. cond (is_some o) (e ∷ es) ((l, x) ∷ e ∷ es))
          (ap found (sym is) ∙ lookup-none (is_at (label_cmp l)) (e ∷ es) (none_below_head label_total l e es order is))
      by Equal is rest = refl
      by Greater is rest = cond_tail (is_some (lookup (is_at (label_cmp l)) es)) e es (insert_entry label_cmp es l x) ∙ ap (λ t. e ∷ t) rest

  pub with_first_is : (l : CowStr) (x : X) (es : List (CowStr × X)) → IsInOrder es → with_first es l x ≡ put folding_of label_of (l, x) es
  with_first_is l x es order = ap (λ o. cond (is_some o) es (insert_entry label_cmp es l x)) (found_by_order l es) ∙ put_is l x es order

  with_all_is : (es ds : List (CowStr × X)) → IsInOrder es → with_all es ds ≡ put_all folding_of label_of es ds
  unfolding with_all
  with_all_is es [] order = refl
  with_all_is es (d ∷ ds) order =
      ap (λ t. with_all t ds) (with_first_is d.0 d.1 es order)
      ∙ with_all_is (put folding_of label_of d es) ds (up_put folding_of label_of d es order)

  pub table_is : (ds : List (CowStr × X)) → table_of ds ≡ put_all folding_of label_of [] ds
  unfolding IsStrictlySortedBy
  table_is ds = with_all_is [] ds tt

  pub in_order_table : (ds : List (CowStr × X)) → IsInOrder (table_of ds)
  unfolding IsStrictlySortedBy
  in_order_table ds = subst IsInOrder (sym (table_is ds)) (up_all folding_of label_of [] ds tt)

  pub entry_of_table : (f : List ℕ) (ds : List (CowStr × X)) → entry_under f (table_of ds) ≡ entry_under f ds
  unfolding IsStrictlySortedBy
  entry_of_table f ds = ap (entry_under f) (table_is ds) ∙ under_all folding_of label_of f [] ds tt

  definition_of : (f : List ℕ) (es : List (CowStr × X)) → option_map (λ d. d.1) (entry_under f es) ≡ defined_under f es
  definition_of f [] = refl
  definition_of f (e ∷ es) = by (pointwise nat_eq f (folding_of e.0)) (definition_of f es)
    where
      by : (b : Bool) → option_map (λ d. d.1) (entry_under f es) ≡ defined_under f es
          → option_map (λ d. d.1) (cond b (Some e) (entry_under f es)) ≡ cond b (Some e.1) (defined_under f es)
      by true rest = refl
      by false rest = rest

  pub under_table : (f : List ℕ) (ds : List (CowStr × X)) → defined_under f (table_of ds) ≡ defined_under f ds
  under_table f ds = sym (definition_of f (table_of ds)) ∙ ap (option_map (λ d. d.1)) (entry_of_table f ds) ∙ definition_of f ds

  -- definitions after others; one more definition
  pub with_more : (es ds more : List (CowStr × X)) → with_all es (ds ++ more) ≡ with_all (with_all es ds) more
  unfolding with_all
  with_more es [] more = refl
  with_more es (d ∷ ds) more = with_more (with_first es d.0 d.1) ds more

  pub with_one_more : (es ds : List (CowStr × X)) (l : CowStr) (x : X) → with_all es (ds ++ (l, x) ∷ []) ≡ with_first (with_all es ds) l x
  unfolding with_all
  with_one_more es ds l x = with_more es ds ((l, x) ∷ [])
