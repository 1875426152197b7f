-- A table that takes link reference definitions in order finds the same entries as the definitions in the order of the
-- text, and one that takes the labels of footnote definitions finds their first spellings.
use Rattle.std.proofs.Common.{◌≡◌, ℕ, cond, List, ◌∷◌, Some, find, nat_eq, map-id, refl, sym, ap, subst, ◌∙◌, arith, []}
use Rattle.first_pass_grammar.proofs.Common.{folded, LinkEntry, with_link, with_links, with_label, with_labels}
use Rattle.std.specs.Cmp.Lexicographic.{pointwise}
use Rattle.std.specs.List.Sorted.{IsStrictlySortedBy}
use Rattle.std.specs.Ordering.{match_ordering}
use Rattle.first_pass_labels.proofs.FirstOfEach.{has, put, put_all, up_all, under_all}
use Rattle.first_pass_grammar.specs.LinkTables.{folded_cmp, link_under, label_under, IsInFoldedOrder}

-- ---- links

abbrev pub label_of : LinkEntry → List ℕ
label_of x = x.label

pub put_link : (x : LinkEntry) (links : List LinkEntry) → with_link x links ≡ put folded label_of x links
unfolding with_link
put_link x [] = refl
put_link x (y ∷ links) = ap (λ t. match_ordering (folded_cmp x.label y.label) (x ∷ y ∷ links) (y ∷ links) (y ∷ t)) (put_link x links)

put_links : (links definitions : List LinkEntry) → with_links links definitions ≡ put_all folded label_of links definitions
unfolding with_links
put_links links [] = refl
put_links links (x ∷ definitions) = put_links (with_link x links) definitions ∙ ap (λ t. put_all folded label_of t definitions) (put_link x links)

find_link : (f : List ℕ) (links : List LinkEntry) → link_under f links ≡ find (has folded label_of f) links
unfolding link_under
find_link f [] = refl
find_link f (x ∷ links) = ap (cond (pointwise nat_eq f (folded x.label)) (Some x)) (find_link f links)

pub order_of_links : (definitions : List LinkEntry) → IsInFoldedOrder (with_links [] definitions)
unfolding IsStrictlySortedBy
order_of_links definitions = subst IsInFoldedOrder (sym (put_links [] definitions)) (up_all folded label_of [] definitions tt)

pub first_under : (f : List ℕ) (definitions : List LinkEntry) → link_under f (with_links [] definitions) ≡ link_under f definitions
unfolding IsStrictlySortedBy
first_under f definitions = grind (arith, find_link, put_links, under_all)

-- ---- labels of footnotes

abbrev pub itself : List ℕ → List ℕ
itself x = x

pub put_label : (x : List ℕ) (labels : List (List ℕ)) → with_label x labels ≡ put folded itself x labels
unfolding with_label
put_label x [] = refl
put_label x (y ∷ labels) = ap (λ t. match_ordering (folded_cmp x y) (x ∷ y ∷ labels) (y ∷ labels) (y ∷ t)) (put_label x labels)

pub put_labels : (labels more : List (List ℕ)) → with_labels labels more ≡ put_all folded itself labels more
unfolding with_labels
put_labels labels [] = refl
put_labels labels (x ∷ more) = put_labels (with_label x labels) more ∙ ap (λ t. put_all folded itself t more) (put_label x labels)

find_label : (f : List ℕ) (labels : List (List ℕ)) → label_under f labels ≡ find (has folded itself f) labels
unfolding label_under
find_label f [] = refl
find_label f (x ∷ labels) = ap (cond (pointwise nat_eq f (folded x)) (Some x)) (find_label f labels)

pub order_of_labels : (labels : List (List ℕ)) → IsStrictlySortedBy folded_cmp (with_labels [] labels)
unfolding IsStrictlySortedBy
order_of_labels labels =
    subst (IsStrictlySortedBy folded_cmp) (map-id (put_all folded itself [] labels) ∙ sym (put_labels [] labels)) (up_all folded itself [] labels tt)

pub first_label : (f : List ℕ) (labels : List (List ℕ)) → label_under f (with_labels [] labels) ≡ label_under f labels
unfolding IsStrictlySortedBy
first_label f labels = grind (arith, find_label, put_labels, under_all)
