-- A state whose open nodes can be closed, and to which a block can be added. Where the innermost open node has ended.
use Rattle.std.specs.Prelude.{◌≡◌, ◌≤◌, ℕ, ◌+◌, false, List, length, slice_get, Option, Some, None, IfSome, IsSomeAnd}
use Rattle.first_pass_items.specs.declared.item.Item.{Item}
use Rattle.first_pass_tree.specs.declared.tree_index.TreeIndex.{TreeIndex}
use Rattle.first_pass_tree.specs.Forest.{Forest, item_at, open_place}
use Rattle.first_pass_lists.specs.Closing.{top_body, is_list}
use Rattle.first_pass_lists.specs.declared.state.PassState.{PassState}
use Rattle.first_pass_order.specs.Ordered.{IsReadTo}

-- The state is in order up to an offset, and its open nodes can be closed there in order. The innermost open node is no
-- list, so a block can be added to it (this project).
pub record MayAddAt (text : List ℕ) (r : PassState) (at : ℕ) : Type 0 where
  pub read : IsReadTo text r at
  pub outside : is_list (top_body r.tree) ≡ false

-- The last child of the innermost open node ends at or before an offset. If no node is current, the innermost open node
-- is the last node, so it has no child (this project).
abbrev pub LastEndsBy : Forest Item → ℕ → Option TreeIndex → Type 0
LastEndsBy f at None = open_place f.spine + 1 ≡ length f.nodes
LastEndsBy f at (Some last) = IsSomeAnd (item_at f last) (λ x. x.«end» ≤ at)

-- The innermost open node starts at or before an offset, and its last child, if it has one, ends there or before
-- (this project).
pub record HasEndedBy (f : Forest Item) (at : ℕ) : Type 0 where
  pub start : IfSome (slice_get f.spine 0) (λ ix. IfSome (item_at f ix) (λ x. x.start ≤ at))
  pub last : LastEndsBy f at f.current
