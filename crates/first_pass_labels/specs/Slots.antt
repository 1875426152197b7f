-- What a table of labels is sorted by: a label with its definition, and the index of both in the text's order (this
-- project).
use Rattle.std.specs.Prelude.{ℕ, List, Bool, nat_eq}
use Rattle.std.specs.declared.cmp.Ordering.{Ordering}
use Rattle.std.specs.Ordering.{nat_cmp}
use Rattle.std.specs.Cmp.Lexicographic.{pointwise, slice_cmp}
use Rattle.first_pass_items.specs.declared.cow_str.CowStr.{CowStr}
use Rattle.first_pass_labels.specs.Foldings.{folding_of}

-- the folding of a slot's label
abbrev pub slot_folding : {X : Type 0} → (CowStr × X) × ℕ → List ℕ
slot_folding slot = folding_of slot.0.0

-- slots are equal if their labels are
abbrev pub is_same_slot : {X : Type 0} → (CowStr × X) × ℕ → (CowStr × X) × ℕ → Bool
is_same_slot x y = pointwise nat_eq (slot_folding x) (slot_folding y)

-- and they have the order of their labels
abbrev pub slot_cmp : {X : Type 0} → (CowStr × X) × ℕ → (CowStr × X) × ℕ → Ordering
slot_cmp x y = slice_cmp nat_cmp (slot_folding x) (slot_folding y)
