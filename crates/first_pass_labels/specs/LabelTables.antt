-- A table of definitions by label, as the list of its labels, each with its definition (CommonMark 6.3, on matching
-- labels).
use Rattle.std.specs.Prelude.{◌≡◌, ◌≢◌, ◌<◌, ℕ, List, Bool, true, Option, None, Some, All, Contains, cond, is_some, length, map, nat_eq, [], ◌∷◌}
use Rattle.std.specs.Cmp.Lexicographic.{pointwise}
use Rattle.std.specs.List.{filter, slice_get}
use Rattle.std.specs.List.Sorted.{IsStrictlySortedBy}
use Rattle.std.specs.Ordering.{is_lt}
use Rattle.std.specs.Map.{keys_of, lookup}
use Rattle.std.specs.BTreeMap.{insert_entry}
use Rattle.first_pass_items.specs.declared.cow_str.CowStr.{CowStr}
use Rattle.first_pass_labels.specs.Foldings.{folding_of, label_cmp}

-- the definition under the first label with this folding
abbrev pub defined_under : {X : Type 0} → List ℕ → List (CowStr × X) → Option X
defined_under folding entries = lookup (λ label. pointwise nat_eq folding (folding_of label)) entries

-- the result of a look-up by folding: the definition of a label that has it, or none if no label has it
abbrev pub HoldsUnder : {X : Type 0} → List (CowStr × X) → List ℕ → Option X → Type 0
HoldsUnder entries folding None = All (λ e. folding_of e.0 ≢ folding) entries
HoldsUnder entries folding (Some x) = (label : CowStr) × Contains entries (label, x) × (folding_of label ≡ folding)

-- the labels are in the byte order of their foldings, each folding once
abbrev pub IsInOrder : {X : Type 0} → List (CowStr × X) → Type 0
IsInOrder entries = IsStrictlySortedBy label_cmp (keys_of entries)

-- the table with one more definition, unless it has one with the same folding: the first one stays
abbrev pub with_first : {X : Type 0} → List (CowStr × X) → CowStr → X → List (CowStr × X)
with_first entries label x = cond (is_some (defined_under (folding_of label) entries)) entries (insert_entry label_cmp entries label x)

-- the table with these definitions added, one after the other
unfoldable pub with_all : {X : Type 0} → List (CowStr × X) → List (CowStr × X) → List (CowStr × X)
with_all entries [] = entries
with_all entries (d ∷ ds) = with_all (with_first entries d.0 d.1) ds

-- the table of the definitions of a text, in the order of the text
abbrev pub table_of : {X : Type 0} → List (CowStr × X) → List (CowStr × X)
table_of definitions = with_all [] definitions

-- whether a label comes after another one in the order of labels; without another one, each label does (this project)
abbrev pub comes_after : Option CowStr → CowStr → Bool
comes_after None label = true
comes_after (Some other) label = is_lt (label_cmp other label)

-- the definitions whose labels come after a label, or all of them without one (this project)
abbrev pub after_label : {X : Type 0} → Option CowStr → List (CowStr × X) → List (CowStr × X)
after_label label definitions = filter (λ d. comes_after label d.0) definitions

-- of the first definition so far, if any, and another one, the one whose label comes first; the former if their labels
-- are tied (this project)
abbrev pub lesser_of : {X : Type 0} → Option (CowStr × X) → CowStr × X → Option (CowStr × X)
lesser_of None d = Some d
lesser_of (Some first) d = cond (is_lt (label_cmp d.0 first.0)) (Some d) (Some first)

-- the definitions at these indices are those of the table, in its order (this project)
abbrev pub IsOrderOf : {X : Type 0} → List ℕ → List (CowStr × X) → List (CowStr × X) → Type 0
IsOrderOf order definitions table = map (slice_get definitions) order ≡ map Some table

-- the same, unless no index is given: a table that is not sorted has none (this project)
abbrev pub IsOrderIfAny : {X : Type 0} → List ℕ → List (CowStr × X) → List (CowStr × X) → Type 0
IsOrderIfAny order definitions table = 0 < length order → IsOrderOf order definitions table
