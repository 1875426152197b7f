-- Entries with keys, added one after the other at their places in the byte order of the keys' foldings: of entries with
-- the same folding the first one stays.
use Rattle.std.proofs.Common.{◌≡◌, ℕ, ◌≤◌, ◌+◌, suc, Bool, true, false, cond, List, [], ◌∷◌, ◌++◌, Option, None, Some, find, length, map, nat_eq, refl, sym}
use Rattle.std.proofs.Common.{ap, ap₂, subst, ◌∙◌, arith, nat_cmp, is_eq, Ordering, Less, Equal, Greater}
use Rattle.std.proofs.lemmas.Option.{none-some, same_Some}
use Rattle.std.specs.Cmp.{IsTotalOrder, Equal-is, on_total}
use Rattle.std.specs.Cmp.Lexicographic.{pointwise, slice_cmp, texts_ties, bytes_decides, nat_list_cmp_total}
use Rattle.std.specs.List.{AllByRecursion}
use Rattle.std.specs.List.Sorted.{IsStrictlySortedBy}
use Rattle.std.specs.Option.{option_or}
use Rattle.std.specs.Ordering.{match_ordering, ordering_reverse}

pub or_none : {Y : Type 0} (o : Option Y) → option_or o None ≡ o
or_none None = refl
or_none (Some y) = refl

or_three : {Y : Type 0} (o p q : Option Y) → option_or (option_or o p) q ≡ option_or o (option_or p q)
or_three None p q = refl
or_three (Some y) p q = refl

module _ {Y : Type 0} (y : Y) (o : Option Y) where
  or_one : (b : Bool) → option_or (cond b (Some y) None) o ≡ cond b (Some y) o
  or_one true = refl
  or_one false = refl

  or_after : (b : Bool) (p q : Option Y) → q ≡ option_or o p → cond b (Some y) q ≡ option_or (cond b (Some y) o) p
  or_after true p q is = refl
  or_after false p q is = is

  or_front : (b : Bool) → (b ≡ true → o ≡ None) → cond b (Some y) o ≡ option_or o (cond b (Some y) None)
  or_front true none = sym (ap (λ p. option_or p (Some y)) (none refl))
  or_front false none = sym (or_none o)

  or_both : (x : Y) (b : Bool) → cond b (Some y) o ≡ option_or (cond b (Some y) o) (cond b (Some x) None)
  or_both x true = refl
  or_both x false = sym (or_none o)

-- ---- keys by their foldings

module _ {K : Type 0} (g : K → List ℕ) where
  abbrev pub by_folding : K → K → Ordering
  by_folding x y = slice_cmp nat_cmp (g x) (g y)

  pub folding_total : IsTotalOrder by_folding
  folding_total = on_total g nat_list_cmp_total

  pub tied_same : (x y : K) → by_folding x y ≡ Equal → g x ≡ g y
  tied_same x y is = (bytes_decides (g x) (g y)).0 (texts_ties (g x) (g y) ∙ ap is_eq is)

  pub same_tied : (x y : K) → g x ≡ g y → by_folding x y ≡ Equal
  same_tied x y same = (Equal-is (by_folding x y)).0 (sym (texts_ties (g x) (g y)) ∙ (bytes_decides (g x) (g y)).1 same)

module _ {K E : Type 0} (g : K → List ℕ) (key : E → K) where
  -- whether an entry has this folding
  abbrev pub has : List ℕ → E → Bool
  has f e = pointwise nat_eq f (g (key e))

  abbrev pub put : E → List E → List E
  put x [] = x ∷ []
  put x (y ∷ es) = match_ordering (by_folding g (key x) (key y)) (x ∷ y ∷ es) (y ∷ es) (y ∷ put x es)

  abbrev pub put_all : List E → List E → List E
  put_all es [] = es
  put_all es (d ∷ ds) = put_all (put d es) ds

  -- ---- the order

  abbrev pub IsUp : List E → Type 0
  IsUp es = IsStrictlySortedBy (by_folding g) (map key es)

  -- a key is below those of all these entries
  abbrev pub IsBelow : K → List E → Type 0
  IsBelow k es = AllByRecursion (λ y. by_folding g k y ≡ Less) (map key es)

  pub below_all : (l k : K) (es : List E) → by_folding g l k ≡ Less → IsBelow k es → IsBelow l es
  below_all l k [] less all = tt
  below_all l k (y ∷ es) less all = ((folding_total g).trans l k (key y) less all.0, below_all l k es less all.1)

  -- a list with one more entry is one of three, by the entry's place among them
  module _ (P : List E → Type 0) (x y : E) (es : List E) (front : by_folding g (key x) (key y) ≡ Less → P (x ∷ y ∷ es))
      (level : by_folding g (key x) (key y) ≡ Equal → P (y ∷ es)) (back : by_folding g (key x) (key y) ≡ Greater → P (y ∷ put x es)) where
    by_place : (o : Ordering) → by_folding g (key x) (key y) ≡ o → P (match_ordering o (x ∷ y ∷ es) (y ∷ es) (y ∷ put x es))
    by_place Less is = front is
    by_place Equal is = level is
    by_place Greater is = back is

  below_put : (x : E) (k : K) (es : List E) → by_folding g k (key x) ≡ Less → IsBelow k es → IsBelow k (put x es)
  below_put x k [] less all = (less, tt)
  below_put x k (y ∷ es) less all =
      by_place (IsBelow k) x y es (λ _. (less, all)) (λ _. all) (λ _. (all.0, below_put x k es less all.1)) (by_folding g (key x) (key y)) refl

  pub up_put : (x : E) (es : List E) → IsUp es → IsUp (put x es)
  unfolding IsStrictlySortedBy
  up_put x [] up = (tt, tt)
  up_put x (y ∷ es) up =
      by_place IsUp x y es (λ is. ((is, below_all (key x) (key y) es is up.0), up)) (λ _. up)
      (λ is. (below_put x (key y) es ((folding_total g).antisymm (key y) (key x) ∙ ap ordering_reverse is) up.0, up_put x es up.1))
      (by_folding g (key x) (key y)) refl

  pub up_all : (es ds : List E) → IsUp es → IsUp (put_all es ds)
  up_all es [] up = up
  up_all es (d ∷ ds) up = up_all (put d es) ds (up_put d es up)

  -- ---- the entry under a folding

  pub none_below : (k : K) (f : List ℕ) (es : List E) → f ≡ g k → IsBelow k es → find (has f) es ≡ None
  none_below k f [] same all = refl
  none_below k f (e ∷ es) same all =
      ap (λ b. cond b (Some e) (find (has f) es)) (texts_ties f (g (key e)) ∙ ap (λ h. is_eq (slice_cmp nat_cmp h (g (key e)))) same ∙ ap is_eq all.0)
      ∙ none_below k f es same all.1

  under_put : (f : List ℕ) (x : E) (es : List E) → IsUp es → find (has f) (put x es) ≡ option_or (find (has f) es) (cond (has f x) (Some x) None)
  unfolding IsStrictlySortedBy
  under_put f x [] up = refl
  under_put f x (y ∷ es) up =
      by_place (λ l. find (has f) l ≡ option_or (find (has f) (y ∷ es)) (cond (has f x) (Some x) None)) x y es
      (λ is. or_front x (find (has f) (y ∷ es)) (has f x)
      (λ h. none_below (key x) f (y ∷ es) ((bytes_decides f (g (key x))).0 h) (is, below_all (key x) (key y) es is up.0)))
      (λ is. or_both y (find (has f) es) x (has f y)
      ∙ ap (λ l. option_or (find (has f) (y ∷ es)) (cond (pointwise nat_eq f l) (Some x) None)) (sym (tied_same g (key x) (key y) is)))
      (λ _. or_after y (find (has f) es) (has f y) (cond (has f x) (Some x) None) (find (has f) (put x es)) (under_put f x es up.1))
      (by_folding g (key x) (key y)) refl

  pub under_all : (f : List ℕ) (es ds : List E) → IsUp es → find (has f) (put_all es ds) ≡ option_or (find (has f) es) (find (has f) ds)
  under_all f es [] up = sym (or_none (find (has f) es))
  under_all f es (d ∷ ds) up =
      under_all f (put d es) ds (up_put d es up) ∙ ap (λ o. option_or o (find (has f) ds)) (under_put f d es up)
      ∙ or_three (find (has f) es) (cond (has f d) (Some d) None) (find (has f) ds)
      ∙ ap (option_or (find (has f) es)) (or_one d (find (has f) ds) (has f d))

  -- ---- two lists in order that have the same under each folding are equal

  pub own : (a : E) (es : List E) → find (has (g (key a))) (a ∷ es) ≡ Some a
  own a es = ap (λ b. cond b (Some a) (find (has (g (key a))) es)) ((bytes_decides (g (key a)) (g (key a))).1 refl)

  same_tail : (f : List ℕ) (a : E) (xs ys : List E) (b : Bool) → has f a ≡ b → IsBelow (key a) xs → IsBelow (key a) ys
      → find (has f) (a ∷ xs) ≡ find (has f) (a ∷ ys) → find (has f) xs ≡ find (has f) ys
  same_tail f a xs ys true is p q same =
      let level = (bytes_decides f (g (key a))).0 is in none_below (key a) f xs level p ∙ sym (none_below (key a) f ys level q)
  same_tail f a xs ys false is p q same = grind arith

  abbrev pub AreAlike : List E → List E → Type 0
  AreAlike xs ys = (d : E) → find (has (g (key d))) xs ≡ find (has (g (key d))) ys

  -- no key is below all of a list that has an entry under it
  not_below : (a : E) (xs ys : List E) → AreAlike (a ∷ xs) ys → IsBelow (key a) ys → ⊥
  not_below a xs ys same all = none-some a (sym (none_below (key a) (g (key a)) ys refl all) ∙ sym (same a) ∙ own a xs)

  pub unique : (xs ys : List E) → IsUp xs → IsUp ys → AreAlike xs ys → xs ≡ ys
  unfolding IsStrictlySortedBy
  unique [] [] p q same = refl
  unique [] (b ∷ ys) p q same = absurd (none-some b (same b ∙ own b ys))
  unique (a ∷ xs) [] p q same = absurd (none-some a (sym (same a) ∙ own a xs))
  unique (a ∷ xs) (b ∷ ys) p q same = by (by_folding g (key a) (key b)) refl (unique xs ys p.1 q.1)
    where
      by : (o : Ordering) → by_folding g (key a) (key b) ≡ o → (AreAlike xs ys → xs ≡ ys) → a ∷ xs ≡ b ∷ ys
      by Less is next = absurd (not_below a xs (b ∷ ys) same (is, below_all (key a) (key b) ys is q.0))
      by Equal is next =
          let e = same_Some a b (sym (own a xs) ∙ same a ∙ ap (λ f. find (has f) (b ∷ ys)) (tied_same g (key a) (key b) is) ∙ own b ys) in
          let level = subst (λ c. IsBelow (key c) ys) (sym e) q.0 in
          let rest : AreAlike xs ys =
          λ d. same_tail (g (key d)) a xs ys (has (g (key d)) a) refl p.0 level (same d ∙ ap (λ c. find (has (g (key d))) (c ∷ ys)) (sym e)) in
          ap₂ ◌∷◌ e (next rest)
      by Greater is next =
          let less = (folding_total g).antisymm (key b) (key a) ∙ ap ordering_reverse is in
          absurd (not_below b ys (a ∷ xs) (λ d. sym (same d)) (less, below_all (key b) (key a) xs less p.0))

  -- ---- one more entry

  pub put_last : (es ds : List E) (x : E) → put_all es (ds ++ x ∷ []) ≡ put x (put_all es ds)
  put_last es [] x = refl
  put_last es (d ∷ ds) x = put_last (put d es) ds x

  put_long : (x : E) (es : List E) → length (put x es) ≤ suc (length es)
  put_long x [] = omega arith
  put_long x (y ∷ es) = grind (arith, by_place, put_long x es)

  pub all_long : (es ds : List E) → length (put_all es ds) ≤ length es + length ds
  all_long es [] = omega arith
  all_long es (d ∷ ds) = omega (arith, all_long (put d es) ds, put_long d es)

-- ---- a change of each entry that keeps its folding

module _ {K L D E : Type 0} (g : K → List ℕ) (key : D → K) (h : L → List ℕ) (name : E → L) (f : D → E) (same : (d : D) → h (name (f d)) ≡ g (key d)) where
  pub map_put : (x : D) (es : List D) → map f (put g key x es) ≡ put h name (f x) (map f es)
  map_put x [] = refl
  map_put x (y ∷ es) =
      by (by_folding g (key x) (key y)) (map_put x es)
      ∙ ap (λ o. match_ordering o (f x ∷ f y ∷ map f es) (f y ∷ map f es) (f y ∷ put h name (f x) (map f es)))
      (ap₂ (slice_cmp nat_cmp) (sym (same x)) (sym (same y)))
    where
      by : (o : Ordering) → map f (put g key x es) ≡ put h name (f x) (map f es) → map f (match_ordering o (x ∷ y ∷ es) (y ∷ es) (y ∷ put g key x es))
          ≡ match_ordering o (f x ∷ f y ∷ map f es) (f y ∷ map f es) (f y ∷ put h name (f x) (map f es))
      by Less rest = refl
      by Equal rest = refl
      by Greater rest = ap (λ z. f y ∷ z) rest

  pub map_put_all : (es ds : List D) → map f (put_all g key es ds) ≡ put_all h name (map f es) (map f ds)
  map_put_all es [] = refl
  map_put_all es (d ∷ ds) = map_put_all (put g key d es) ds ∙ ap (λ t. put_all h name t (map f ds)) (map_put d es)
