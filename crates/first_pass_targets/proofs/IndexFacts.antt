-- The first definitions by key, and the keys of footnotes.
use Rattle.std.proofs.Common.{◌≡◌, ℕ, ◌+◌, Bool, true, false, cond, nat_eq, nat_lt, ◌||◌, List, [], ◌∷◌, Option, Some, None, refl, sym, ap, ◌∙◌, arith}
use Rattle.std.proofs.Common.{if◌then◌else◌}
use Rattle.std.proofs.lemmas.Bool.Decides.{nat_tests}
use Rattle.std.specs.BTreeMap.{BTreeMap, get, is_at}
use Rattle.std.specs.BTreeSet.{BTreeSet, contains}
use Rattle.std.specs.Cmp.Lexicographic.{pointwise, slice_cmp, texts_ties, bytes_decides}
use Rattle.std.specs.List.{list_any}
use Rattle.std.specs.Map.{lookup}
use Rattle.std.specs.Option.{option_map}
use Rattle.std.specs.Ordering.{is_eq, nat_cmp}
use Rattle.first_pass_items.specs.declared.cow_str.CowStr.{CowStr}
use Rattle.first_pass_items.specs.CowText.{text_of}
use Rattle.first_pass_labels.specs.Foldings.{folding_of, label_cmp}
use Rattle.first_pass_labels.specs.declared.label_table.LinkDef.{LinkDef}
use Rattle.first_pass_targets.specs.Indices.{first_at, pair_of}
use Rattle.first_pass_targets.specs.Keys.{earlier, first_with_key, has_key, label_key}
use Rattle.first_pass_targets.specs.declared.definition_index.First.{First}

-- the earliest of definitions
earlier-none : (a : Option (ℕ × LinkDef)) → earlier a None ≡ a
earlier-none None = refl
earlier-none (Some a) = refl

three : (t u : Bool) (a b c : ℕ × LinkDef) → nat_lt b.1.span.start a.1.span.start ≡ t → nat_lt c.1.span.start b.1.span.start ≡ u
    → earlier (earlier (Some a) (Some b)) (Some c) ≡ earlier (Some a) (earlier (Some b) (Some c))
three true true a b c e f = let g : nat_lt c.1.span.start a.1.span.start ≡ true = grind (arith, nat_tests, e, f) in rw (f, e, f, g) refl
three true false a b c e f = rw (f, e, f) refl
three false true a b c e f = rw (f, e) refl
three false false a b c e f = let g : nat_lt c.1.span.start a.1.span.start ≡ false = grind (arith, nat_tests, e, f) in rw (f, e, g) refl

earlier-assoc : (a b c : Option (ℕ × LinkDef)) → earlier (earlier a b) c ≡ earlier a (earlier b c)
earlier-assoc None b c = refl
earlier-assoc (Some a) None c = refl
earlier-assoc (Some a) (Some b) None = earlier-none (earlier (Some a) (Some b))
earlier-assoc (Some a) (Some b) (Some c) = three _ _ a b c refl refl

-- keys with the same folding have the same definition
same_first : (m : BTreeMap CowStr First) (k q : CowStr) → folding_of k ≡ folding_of q → first_at m k ≡ first_at m q
same_first m k q e = ap (λ f. option_map pair_of (lookup (λ l. is_eq (slice_cmp nat_cmp f (folding_of l))) m.entries)) e

added_by : (t : Bool) (m n : BTreeMap CowStr First) (k : CowStr) (d : First) (q : CowStr) → pointwise nat_eq (folding_of k) (folding_of q) ≡ t
    → get label_cmp n q ≡ cond t (Some d) (get label_cmp m q) → earlier (first_at m k) (Some (pair_of d)) ≡ Some (pair_of d)
    → first_at n q ≡ (if t then earlier (first_at m q) (Some (pair_of d)) else first_at m q)
added_by true m n k d q h u e =
    ap (option_map pair_of) u ∙ sym e ∙ ap (λ o. earlier o (Some (pair_of d))) (same_first m k q ((bytes_decides (folding_of k) (folding_of q)).0 h))
added_by false m n k d q h u e = ap (option_map pair_of) u

-- a definition that begins before the one with its key is added
pub added : (m n : BTreeMap CowStr First) (k : CowStr) (d : First) (key : List ℕ) → folding_of k ≡ key
    → ((q : CowStr) → get label_cmp n q ≡ cond (is_at (label_cmp k) q) (Some d) (get label_cmp m q))
    → earlier (first_at m k) (Some (pair_of d)) ≡ Some (pair_of d)
    → (q : CowStr) → first_at n q ≡ (if pointwise nat_eq key (folding_of q) then earlier (first_at m q) (Some (pair_of d)) else first_at m q)
added m n k d key e u f q =
    let t = texts_ties (folding_of k) (folding_of q) in
    added_by _ m n k d q refl (u q ∙ ap (λ b. cond b (Some d) (get label_cmp m q)) (sym t)) f
    ∙ ap (λ x. if pointwise nat_eq x (folding_of q) then earlier (first_at m q) (Some (pair_of d)) else first_at m q) e

-- The first definitions so far, and those of the rest of the table from an index on, give those of the table.
abbrev pub IsPartOfIndex : BTreeMap CowStr First → ℕ → List (CowStr × LinkDef) → List (CowStr × LinkDef) → Type 0
IsPartOfIndex m index rest table =
    (q : CowStr) → earlier (first_at m q) (first_with_key (folding_of q) index rest) ≡ first_with_key (folding_of q) 0 table

with_key : (t : Bool) (key : List ℕ) (index : ℕ) (label : CowStr) (d : LinkDef) (ds : List (CowStr × LinkDef)) → has_key key label ≡ t
    → first_with_key key index ((label, d) ∷ ds)
    ≡ (if t then earlier (Some (index, d)) (first_with_key key (index + 1) ds) else first_with_key key (index + 1) ds)
unfolding first_with_key
with_key t key index label d ds h =
    ap (λ b. if b then earlier (Some (index, d)) (first_with_key key (index + 1) ds) else first_with_key key (index + 1) ds) h

indexed_by : (t : Bool) (m n : BTreeMap CowStr First) (index : ℕ) (label : CowStr) (d : LinkDef) (left : List (CowStr × LinkDef)) (q : CowStr)
    → has_key (folding_of q) label ≡ t → first_at n q ≡ (if t then earlier (first_at m q) (Some (index, d)) else first_at m q)
    → earlier (first_at n q) (first_with_key (folding_of q) (index + 1) left)
    ≡ earlier (first_at m q) (first_with_key (folding_of q) index ((label, d) ∷ left))
indexed_by true m n index label d left q h e =
    ap (λ o. earlier o (first_with_key (folding_of q) (index + 1) left)) e
    ∙ earlier-assoc (first_at m q) (Some (index, d)) (first_with_key (folding_of q) (index + 1) left)
    ∙ ap (earlier (first_at m q)) (sym (with_key true (folding_of q) index label d left h))
indexed_by false m n index label d left q h e =
    ap (λ o. earlier o (first_with_key (folding_of q) (index + 1) left)) e
    ∙ ap (earlier (first_at m q)) (sym (with_key false (folding_of q) index label d left h))

pub one_more : (m n : BTreeMap CowStr First) (index : ℕ) (e : CowStr × LinkDef) (rest left table : List (CowStr × LinkDef)) (text : List ℕ)
    → rest ≡ e ∷ left → text ≡ text_of e.0
    → ((q : CowStr) → first_at n q ≡ (if pointwise nat_eq (label_key text) (folding_of q) then earlier (first_at m q) (Some (index, e.1)) else first_at m q))
    → IsPartOfIndex m index rest table → IsPartOfIndex n (index + 1) left table
one_more m n index e rest left table text r t s i q =
    indexed_by _ m n index e.0 e.1 left q refl
    (s q ∙ ap (λ x. if pointwise nat_eq (label_key x) (folding_of q) then earlier (first_at m q) (Some (index, e.1)) else first_at m q) t)
    ∙ ap (λ ds. earlier (first_at m q) (first_with_key (folding_of q) index ds)) (sym r) ∙ i q

pub all_indexed : (m : BTreeMap CowStr First) (index : ℕ) (rest table : List (CowStr × LinkDef)) → rest ≡ [] → IsPartOfIndex m index rest table
    → (q : CowStr) → first_at m q ≡ first_with_key (folding_of q) 0 table
unfolding first_with_key
all_indexed m index rest table r i q =
    sym (earlier-none (first_at m q)) ∙ ap (λ ds. earlier (first_at m q) (first_with_key (folding_of q) index ds)) (sym r) ∙ i q

-- The keys so far, and those of the rest of a table, are those of the table.
abbrev pub ArePartOfKeys : {X : Type 0} → BTreeSet CowStr → List (CowStr × X) → List (CowStr × X) → Type 0
ArePartOfKeys keys rest table =
    (q : CowStr) → (contains label_cmp keys q || list_any (λ e. has_key (folding_of q) e.0) rest) ≡ list_any (λ e. has_key (folding_of q) e.0) table

either : (t a b : Bool) → (cond t true a || b) ≡ (a || (t || b))
either true true b = refl
either true false b = refl
either false a b = refl

pub one_more_key : {X : Type 0} (m n : BTreeSet CowStr) (k : CowStr) (e : CowStr × X) (rest left table : List (CowStr × X))
    → rest ≡ e ∷ left → folding_of k ≡ label_key (text_of e.0)
    → ((q : CowStr) → contains label_cmp n q ≡ cond (is_at (label_cmp k) q) true (contains label_cmp m q))
    → ArePartOfKeys m rest table → ArePartOfKeys n left table
one_more_key m n k e rest left table r f u i q =
    let tied : is_at (label_cmp k) q ≡ has_key (folding_of q) e.0 =
    sym (texts_ties (folding_of k) (folding_of q)) ∙ ap (λ x. pointwise nat_eq x (folding_of q)) f in
    let left_has : Bool = list_any (λ x. has_key (folding_of q) x.0) left in
    ap (λ b. b || left_has) (u q ∙ ap (λ b. cond b true (contains label_cmp m q)) tied)
    ∙ either (has_key (folding_of q) e.0) (contains label_cmp m q) left_has
    ∙ ap (λ es. contains label_cmp m q || list_any (λ x. has_key (folding_of q) x.0) es) (sym r) ∙ i q

or_false : (a : Bool) → a ≡ (a || false)
or_false true = refl
or_false false = refl

pub all_keys : {X : Type 0} (m : BTreeSet CowStr) (rest table : List (CowStr × X)) → rest ≡ [] → ArePartOfKeys m rest table
    → (q : CowStr) → contains label_cmp m q ≡ list_any (λ e. has_key (folding_of q) e.0) table
all_keys m rest table r i q =
    or_false (contains label_cmp m q) ∙ ap (λ es. contains label_cmp m q || list_any (λ e. has_key (folding_of q) e.0) es) (sym r) ∙ i q
