-- A definition list keeps its leading titles and definitions, and all later children move out of it. The pass does not
-- make this call of the original. An index is that of a node in reading order.
use Rattle.std.specs.Prelude.{ℕ, ◌+◌, ◌==◌, ◌&&◌, not, nat_lt, Bool, true, false, List, drop, length, Option, Some, if◌then◌else◌}
use Rattle.std.specs.List.{position_or_len}
use Rattle.std.specs.Option.{option_map_or}
use Rattle.first_pass_items.specs.declared.item.Item.{Item}
use Rattle.first_pass_items.specs.declared.item.ItemBody.{ItemBody}
use Rattle.first_pass_items.specs.declared.item.ItemBody.TheVariants.{Paragraph, DefinitionListTitle, DefinitionListDefinition, MaybeDefinitionListTitle}
use Rattle.first_pass_tree.specs.declared.tree_index.TreeIndex.{TreeIndex}
use Rattle.first_pass_tree.specs.Forest.{Forest, depths, body_at, item_at, last_before, moved_from, with_body_at, with_end_at}

-- an index as a `TreeIndex`
abbrev pub tree_index : ℕ → TreeIndex
tree_index n = record { 0 = n }

-- the body of a possible title
abbrev pub is_possible_title : Option ItemBody → Bool
is_possible_title (Some MaybeDefinitionListTitle) = true
is_possible_title _ = false

-- the body of a title or of a definition, which are the children of a definition list (this project)
abbrev pub is_title_or_definition : ItemBody → Bool
is_title_or_definition DefinitionListTitle = true
is_title_or_definition (DefinitionListDefinition _) = true
is_title_or_definition _ = false

-- a node of this depth that is neither a title nor a definition
abbrev pub is_other_at : ℕ → (ℕ × Item) → Bool
is_other_at d n = n.0 == d && not (is_title_or_definition n.1.body)

-- The index of the first node of this depth that is neither a title nor a definition. The search starts at the
-- index `from`. If there is no such node, the number of nodes.
abbrev pub first_other : ℕ → ℕ → List (ℕ × Item) → ℕ
first_other d from ns = from + position_or_len (is_other_at d) (drop from ns)

-- the index of the last child of the current node before an index; 0 if there is none
abbrev pub child_before : Forest Item → ℕ → ℕ
child_before f n = last_before (depths f.nodes) (length f.spine + 2) n

-- the end of the node at an index
abbrev pub end_there : Forest Item → ℕ → ℕ
end_there f n = option_map_or (λ x. x.«end») (item_at f (tree_index n)) 0

-- the node at an index becomes a paragraph, if it is a possible title (this project)
abbrev pub left_untitled : Forest Item → ℕ → Forest Item
left_untitled f n = if is_possible_title (body_at f.nodes n) then with_body_at f (tree_index n) Paragraph else f

-- The child at the index `other` and all nodes after it are moved out of the list. The list then ends where the
-- child at the index `kept` ends. If `kept` is not after the list, no child precedes, and nothing changes.
abbrev pub left_with : Forest Item → TreeIndex → ℕ → ℕ → Forest Item
left_with f list other kept = if nat_lt list.0 kept then moved_from (with_end_at f list (end_there f kept)) other else f

-- The current node is a definition list. The other child is its first that is neither a title nor a definition. If
-- there is none, nothing changes. If the other child is a possible title, it becomes a paragraph. If no child precedes
-- it, nothing is moved. Otherwise the other child and all nodes after it are moved out of the list, which then ends
-- where its last remaining child ends (this project).
unfoldable pub fixed_up : Forest Item → TreeIndex → Forest Item
fixed_up f list =
    let other : ℕ = first_other (length f.spine + 2) (list.0 + 1) f.nodes in
    if nat_lt other (length f.nodes) then left_with (left_untitled f other) list other (child_before f other) else f
