-- Link reference definitions (CommonMark 4.7), and the tables with the first one of each label: of links, and of
-- footnotes (this project).
use Rattle.std.specs.Prelude.{ℕ, List, [], ◌∷◌, map, Option, None, Some, cond, nat_eq}
use Rattle.std.specs.declared.cmp.Ordering.{Ordering}
use Rattle.std.specs.Ordering.{nat_cmp, match_ordering}
use Rattle.std.specs.Cmp.Lexicographic.{pointwise, slice_cmp}
use Rattle.std.specs.List.Sorted.{IsStrictlySortedBy}
use Rattle.first_pass_labels.specs.Foldings.{folded}
use Rattle.first_pass_labels.specs.declared.label_table.LinkPlaces.{LinkPlaces}

-- a link reference definition: its label, destination and title as bytes, its range, and the places of its parts
-- (CommonMark 4.7)
pub record LinkEntry : Type 0 where
  pub label : List ℕ
  pub dest : List ℕ
  pub title : Option (List ℕ)
  pub start : ℕ
  pub «end» : ℕ
  pub places : LinkPlaces

-- Labels are ordered by the bytes of their foldings; two labels match if their foldings are equal (CommonMark 6.3).
abbrev pub folded_cmp : List ℕ → List ℕ → Ordering
folded_cmp x y = slice_cmp nat_cmp (folded x) (folded y)

-- The table with one more definition, at its place in the order of the foldings. If the table has a definition with
-- the same label already, that one stays: the first of several matching definitions takes precedence (CommonMark 4.7).
unfoldable pub with_link : LinkEntry → List LinkEntry → List LinkEntry
with_link x [] = x ∷ []
with_link x (y ∷ links) = match_ordering (folded_cmp x.label y.label) (x ∷ y ∷ links) (y ∷ links) (y ∷ with_link x links)

-- the table with these definitions added, in the order of the text
unfoldable pub with_links : List LinkEntry → List LinkEntry → List LinkEntry
with_links links [] = links
with_links links (x ∷ definitions) = with_links (with_link x links) definitions

-- the first definition whose label has this folding (CommonMark 4.7; matching labels: 6.3)
unfoldable pub link_under : List ℕ → List LinkEntry → Option LinkEntry
link_under folding [] = None
link_under folding (x ∷ links) = cond (pointwise nat_eq folding (folded x.label)) (Some x) (link_under folding links)

-- The table of footnotes with one more label, at its place in the order of the foldings. If the table has the label
-- already, as its first definition spells it, that one stays (this project).
unfoldable pub with_label : List ℕ → List (List ℕ) → List (List ℕ)
with_label x [] = x ∷ []
with_label x (y ∷ labels) = match_ordering (folded_cmp x y) (x ∷ y ∷ labels) (y ∷ labels) (y ∷ with_label x labels)

-- the table with these labels added, in the order of the text
unfoldable pub with_labels : List (List ℕ) → List (List ℕ) → List (List ℕ)
with_labels labels [] = labels
with_labels labels (x ∷ more) = with_labels (with_label x labels) more

-- the first label that has this folding (this project)
unfoldable pub label_under : List ℕ → List (List ℕ) → Option (List ℕ)
label_under folding [] = None
label_under folding (x ∷ labels) = cond (pointwise nat_eq folding (folded x)) (Some x) (label_under folding labels)

-- the labels are in the byte order of their foldings, and no folding occurs twice (this project)
abbrev pub IsInFoldedOrder : List LinkEntry → Type 0
IsInFoldedOrder links = IsStrictlySortedBy folded_cmp (map (λ x. x.label) links)
