-- What follows the first entry of a table, the first entry after one more definition, and how long a table is.
use Rattle.std.proofs.Common.{◌≡◌, ℕ, ◌+◌, ◌<◌, ◌≤◌, Bool, true, false, cond, List, [], ◌∷◌, ◌++◌, Option, None, Some, find, refl, sym, ap, ap₂, subst, ◌∙◌}
use Rattle.std.proofs.Common.{not-suc-le-zero, arith, take, length, get_or, append-nil, true≢false, filter, slice_get, nat_cmp, is_eq, is_lt, Ordering}
use Rattle.std.proofs.Common.{Less, Equal, Greater}
use Rattle.std.proofs.lemmas.List.{get_or_default}
use Rattle.std.proofs.lemmas.List.Elements.{filter_more}
use Rattle.std.proofs.lemmas.Option.{none-some}
use Rattle.std.specs.Cmp.Lexicographic.{slice_cmp, texts_ties, bytes_decides}
use Rattle.std.specs.List.Sorted.{IsStrictlySortedBy}
use Rattle.std.specs.Ordering.{match_ordering, ordering_reverse}
use Rattle.first_pass_items.specs.declared.cow_str.CowStr.{CowStr}
use Rattle.first_pass_labels.specs.Foldings.{folding_of, label_cmp}
use Rattle.first_pass_labels.specs.LabelTables.{table_of, IsInOrder, after_label, comes_after, lesser_of}
use Rattle.first_pass_labels.proofs.FirstOfEach.{IsBelow, put, put_last, all_long, none_below, below_all, own, tied_same, unique}
use Rattle.first_pass_labels.proofs.TextOrder.{label_of, entry_under, label_total, entry_of_table, in_order_table, table_is}

-- ---- filters

-- what a test finds among the elements that are kept, if all that pass it are kept or none is
find_kept : {X : Type 0} (t p : X → Bool) (b : Bool) → ((d : X) → t d ≡ true → p d ≡ b) → (es : List X) → find t (filter p es) ≡ cond b (find t es) None
find_kept t p true h [] = refl
find_kept t p false h [] = refl
find_kept t p b h (d ∷ es) = by (t d) (p d) refl refl (find_kept t p b h es)
  where
    by : (s q : Bool) → t d ≡ s → p d ≡ q → find t (filter p es) ≡ cond b (find t es) None
        → find t (cond q (d ∷ filter p es) (filter p es)) ≡ cond b (cond s (Some d) (find t es)) None
    by true true ts ps rest = ap (λ c. cond c (Some d) (find t (filter p es))) ts ∙ ap (λ c. cond c (Some d) None) (sym ps ∙ h d ts)
    by true false ts ps rest = rest ∙ rw (sym (h d ts) ∙ ps)
    by false true ts ps rest = ap (λ c. cond c (Some d) (find t (filter p es))) ts ∙ rest
    by false false ts ps rest = rest

twice : {X : Type 0} (p q : X → Bool) → ((d : X) → p d ≡ true → q d ≡ true) → (es : List X) → filter p (filter q es) ≡ filter p es
twice p q within [] = refl
twice p q within (d ∷ es) = by (q d) (p d) refl refl (twice p q within es)
  where
    by : (a b : Bool) → q d ≡ a → p d ≡ b → filter p (filter q es) ≡ filter p es
        → filter p (cond a (d ∷ filter q es) (filter q es)) ≡ cond b (d ∷ filter p es) (filter p es)
    by true b qs ps rest = ap₂ (λ c l. cond c (d ∷ l) l) ps rest
    by false true qs ps rest = absurd (true≢false (sym (within d ps) ∙ qs))
    by false false qs ps rest = rest

-- ---- what follows the first entry of a table

less_by : (o : Ordering) → is_lt o ≡ true → o ≡ Less
less_by Less h = refl
less_by Equal h = absurd (true≢false (sym h))
less_by Greater h = absurd (true≢false (sym h))

after_both : (last : Option CowStr) (e d : CowStr) → comes_after last e ≡ true → is_lt (label_cmp e d) ≡ true → comes_after last d ≡ true
after_both None e d h less = refl
after_both (Some k) e d h less = ap is_lt (label_total.trans k e d (less_by (label_cmp k e) h) (less_by (label_cmp e d) less))

after_alike : (last : Option CowStr) (d e : CowStr) → folding_of d ≡ folding_of e → comes_after last d ≡ comes_after last e
after_alike None d e same = refl
after_alike (Some k) d e same = ap (λ f. is_lt (slice_cmp nat_cmp (folding_of k) f)) same

module _ {X : Type 0} where
  after_under : (last : Option CowStr) (l : CowStr) (es : List (CowStr × X))
      → entry_under (folding_of l) (after_label last es) ≡ cond (comes_after last l) (entry_under (folding_of l) es) None
  after_under last l es =
      find_kept _ (λ d. comes_after last d.0) (comes_after last l)
      (λ d h. after_alike last d.0 l (sym ((bytes_decides (folding_of l) (folding_of d.0)).0 h))) es

  selected_by : (ds : List (CowStr × X)) (e : CowStr × X) (rest : List (CowStr × X)) → table_of ds ≡ e ∷ rest → IsBelow folding_of label_of e.0 rest
      → (d : CowStr × X) (o : Ordering) → label_cmp e.0 d.0 ≡ o
      → entry_under (folding_of d.0) rest ≡ cond (is_lt o) (entry_under (folding_of d.0) ds) None
  selected_by ds e rest is above d Less less =
      let f = folding_of d.0 in
      sym (ap (λ b. cond b (Some e) (entry_under f rest))
      (texts_ties f (folding_of e.0) ∙ ap is_eq (label_total.antisymm d.0 e.0 ∙ ap ordering_reverse less)))
      ∙ ap (entry_under f) (sym is) ∙ entry_of_table f ds
  selected_by ds e rest is above d Equal tied =
      none_below folding_of label_of e.0 (folding_of d.0) rest (sym (tied_same folding_of e.0 d.0 tied)) above
  selected_by ds e rest is above d Greater more =
      none_below folding_of label_of d.0 (folding_of d.0) rest refl
      (below_all folding_of label_of d.0 e.0 rest (label_total.antisymm d.0 e.0 ∙ ap ordering_reverse more) above)

  selected : (ds : List (CowStr × X)) (e : CowStr × X) (rest : List (CowStr × X)) → table_of ds ≡ e ∷ rest → rest ≡ table_of (after_label (Some e.0) ds)
  unfolding IsStrictlySortedBy
  selected ds e rest is =
      let order : IsInOrder (e ∷ rest) = subst IsInOrder is (in_order_table ds) in
      let left = after_label (Some e.0) ds in
      unique folding_of label_of rest (table_of left) order.1 (in_order_table left)
      (λ d. selected_by ds e rest is order.0 d (label_cmp e.0 d.0) refl ∙ sym (after_under (Some e.0) d.0 ds) ∙ sym (entry_of_table (folding_of d.0) left))

  pub after_first : (last : Option CowStr) (es : List (CowStr × X)) (e : CowStr × X) (rest : List (CowStr × X)) → table_of (after_label last es) ≡ e ∷ rest
      → rest ≡ table_of (after_label (Some e.0) es)
  after_first last es e rest is =
      let f = folding_of e.0 in
      let found =
      sym (after_under last e.0 es) ∙ sym (entry_of_table f (after_label last es)) ∙ ap (entry_under f) is ∙ own folding_of label_of e rest in
      selected (after_label last es) e rest is
      ∙ ap table_of (twice (λ d. comes_after (Some e.0) d.0) (λ d. comes_after last d.0)
      (λ d. after_both last e.0 d.0 (within (comes_after last e.0) (entry_under f es) found)) es)
    where
      within : (b : Bool) (o : Option (CowStr × X)) → cond b o None ≡ Some e → b ≡ true
      within true o h = refl
      within false o h = absurd (none-some e h)

  -- ---- the first entry of a table with one more definition

  head_more : (e : CowStr × X) (t : List (CowStr × X)) → slice_get (put folding_of label_of e t) 0 ≡ lesser_of (slice_get t 0) e
  head_more e [] = refl
  head_more e (h ∷ t) = by (label_cmp e.0 h.0)
    where
      by : (o : Ordering) → slice_get (match_ordering o (e ∷ h ∷ t) (h ∷ t) (h ∷ put folding_of label_of e t)) 0 ≡ cond (is_lt o) (Some e) (Some h)
      by Less = refl
      by Equal = refl
      by Greater = refl

  least_more : (e : CowStr × X) (ds : List (CowStr × X)) → slice_get (table_of (ds ++ e ∷ [])) 0 ≡ lesser_of (slice_get (table_of ds) 0) e
  least_more e ds =
      ap (λ t. slice_get t 0) (table_is (ds ++ e ∷ []) ∙ put_last folding_of label_of [] ds e ∙ ap (put folding_of label_of e) (sym (table_is ds)))
      ∙ head_more e (table_of ds)

module _ {X : Type 0} (last : Option CowStr) (es : List (CowStr × X)) (i : ℕ) (d : CowStr × X) (here : i < length es) where
  abbrev before : List (CowStr × X)
  before = after_label last (take i es)

  with_next : (b : Bool) → comes_after last (get_or es i d).0 ≡ b → after_label last (take (i + 1) es) ≡ before ++ cond b (get_or es i d ∷ []) []
  with_next b is =
      filter_more (λ (e : CowStr × X). comes_after last e.0) es i d here ∙ ap (λ c. before ++ cond c (get_or es i d ∷ []) []) is

  pub least_taken : (e : CowStr × X) → comes_after last (get_or es i d).0 ≡ true
      → slice_get (table_of (after_label last (take (i + 1) es))) 0 ≡ lesser_of (slice_get (table_of before) 0) (get_or es i e)
  least_taken e is =
      ap (λ l. slice_get (table_of l) 0) (with_next true is) ∙ least_more (get_or es i d) before
      ∙ ap (lesser_of (slice_get (table_of before) 0)) (get_or_default es i d e here)

  pub least_left : comes_after last (get_or es i d).0 ≡ false → slice_get (table_of (after_label last (take (i + 1) es))) 0 ≡ slice_get (table_of before) 0
  least_left is = ap (λ l. slice_get (table_of l) 0) (with_next false is ∙ append-nil before)

-- without a label, all definitions
pub after_none : {X : Type 0} (es : List (CowStr × X)) → after_label None es ≡ es
after_none [] = refl
after_none (e ∷ es) = ap (λ l. e ∷ l) (after_none es)

-- ---- how long a table is

module _ {X : Type 0} where
  pub table_long : (ds : List (CowStr × X)) → length (table_of ds) ≤ length ds
  table_long ds = omega (arith, ap length (table_is ds), all_long folding_of label_of [] ds)

  found_some : (f : List ℕ) (es : List (CowStr × X)) (d : CowStr × X) → entry_under f es ≡ Some d → 0 < length es
  found_some f [] d found = absurd (none-some d found)
  found_some f (e ∷ es) d found = omega arith

  -- a table of some definitions is not empty
  pub table_some : (ds : List (CowStr × X)) → 0 < length ds → 0 < length (table_of ds)
  table_some [] some = absurd (not-suc-le-zero some)
  table_some (d ∷ ds) some =
      found_some (folding_of d.0) (table_of (d ∷ ds)) d (entry_of_table (folding_of d.0) (d ∷ ds) ∙ own folding_of label_of d ds)
