-- The items of a short list (this project).
use Rattle.std.specs.Prelude.{Bool, true, false, List, []}
use Rattle.first_pass_attributes.specs.declared.short_list.Items.{Items}
use Rattle.first_pass_attributes.specs.declared.short_list.Items.TheVariants.{None, One, Many}

-- the items in order: none, one, or those on the heap (this project)
abbrev pub listed : {T : Type 0} → Items T → List T
listed None = []
listed (One item) = item
listed (Many list) = list.items

-- the items are on the heap (this project)
abbrev pub is_on_heap : {T : Type 0} → Items T → Bool
is_on_heap None = false
is_on_heap (One item) = false
is_on_heap (Many list) = true
