-- Order in a tree with open nodes (this project).
use Rattle.std.specs.Prelude.{◌≡◌, ℕ, suc, ◌≤◌, Bool, false, List, [], ◌∷◌, ◌++◌, length, slice_get, Option, Some, None, IsCharBoundary, if◌then◌else◌}
use Rattle.std.specs.Option.{option_and_then}
use Rattle.first_pass_items.specs.declared.item.Item.{Item}
use Rattle.first_pass_items.specs.declared.item.ItemBody.{ItemBody}
use Rattle.first_pass_tree.specs.declared.tree_index.TreeIndex.{TreeIndex}
use Rattle.first_pass_tree.specs.Forest.{Forest, body_at}
use Rattle.first_pass_grammar.specs.Order.{Ranged, extents, is_list_item, Siblings, laid, IsBetween, Within, Elsewhere, InItem, below, Fits}

-- The nodes, in reading order, of a tree with open nodes. Each level has the siblings before an open node, and that
-- node; the innermost level is first. `row` is what the innermost open node has below it so far.
unfoldable pub laid_open : Ranged → List (Siblings × Ranged) → Siblings → List (ℕ × Ranged)
laid_open root [] row = (0, root) ∷ laid 1 row
laid_open root (level ∷ levels) row = laid_open root levels level.0 ++ (suc (length levels), level.1) ∷ laid (suc (suc (length levels))) row

-- the open nodes are at these indices
abbrev pub AreAt : Ranged → List (Siblings × Ranged) → List TreeIndex → Type 0
AreAt root [] [] = Unit {0}
AreAt root [] (ix ∷ spine) = ⊥
AreAt root (level ∷ levels) [] = ⊥
AreAt root (level ∷ levels) (ix ∷ spine) = (ix.0 ≡ length (laid_open root levels level.0)) × AreAt root levels spine

-- where the next child of the innermost open node is: directly in a list item, or elsewhere
abbrev pub open_within : List (Siblings × Ranged) → Within
open_within [] = Elsewhere
open_within (level ∷ levels) = if level.1.item then InItem else Elsewhere

-- In each open node, the nodes below it are in order after its start, up to the next open node or an offset. The nodes
-- before an open node end at or before its start.
unfoldable pub FitsOpen : List ℕ → ℕ → List (Siblings × Ranged) → Siblings → Type 0
FitsOpen text to [] row = Fits text Elsewhere 0 to row
FitsOpen text to (level ∷ levels) row =
    (before : ℕ) × (before ≤ level.1.start) × Fits text (below (open_within levels) before level.1) level.1.start to row × IsCharBoundary text level.1.start
    × FitsOpen text before levels level.0

-- the next node of a tree is directly in a list item
abbrev pub item_on_top : Option ItemBody → Bool
item_on_top None = false
item_on_top (Some body) = is_list_item body

abbrev pub is_in_item : Forest Item → Bool
is_in_item f = item_on_top (option_and_then (λ ix. body_at f.nodes ix.0) (slice_get f.spine 0))

abbrev pub within_top : Forest Item → Within
within_top f = if is_in_item f then InItem else Elsewhere

-- The nodes of a tree are in order up to an offset; open nodes reach further.
pub record IsOrderedTo (text : List ℕ) (f : Forest Item) (to : ℕ) : Type 0 where
  pub root : Ranged
  pub levels : List (Siblings × Ranged)
  pub row : Siblings
  pub nodes : extents f.nodes ≡ laid_open root levels row
  pub places : AreAt root levels f.spine
  pub fits : FitsOpen text to levels row
  pub within : to ≤ length text
  pub whole : IsBetween text 0 (length text) root × (root.start ≡ 0) × (root.«end» ≡ length text)
