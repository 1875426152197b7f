-- The tree while a block is opened, filled and closed.
use Rattle.std.specs.Prelude.{◌≡◌, ℕ, ◌+◌, List, [], ◌∷◌, length, Option, Some, None}
use Rattle.first_pass_items.specs.declared.item.Item.{Item}
use Rattle.first_pass_items.specs.declared.item.ItemBody.{ItemBody}
use Rattle.first_pass_tree.specs.declared.tree_index.TreeIndex.{TreeIndex}
use Rattle.first_pass_tree.specs.Forest.{Forest, appended, pushed, popped, with_end_at}

-- the tree with this item as the last child of the innermost open node, if an item is given
abbrev pub with_child : Forest Item → Option Item → Forest Item
with_child f None = f
with_child f (Some x) = appended f x

-- the node is the innermost open one and the last node, and no node is current
pub record IsJustPushed (f : Forest Item) (ix : TreeIndex) : Type 0 where
  pub rest : List TreeIndex
  pub innermost : f.spine ≡ ix ∷ rest
  pub last : ix.0 + 1 ≡ length f.nodes
  pub none : f.current ≡ None

-- the tree after the innermost open node is closed with this end, given the open nodes; the same tree if none is open
abbrev pub closed_by : Forest Item → ℕ → List TreeIndex → Forest Item
closed_by f e [] = f
closed_by f e (ix ∷ rest) = with_end_at (popped f ix rest) ix e

-- the item of a block that starts at an offset; its end is 0 until the block is closed
abbrev pub begun_item : ℕ → ItemBody → Item
begun_item start body = record { start = start; «end» = 0; body = body }

-- the tree after such a block is opened
abbrev pub opened_block : Forest Item → ℕ → ItemBody → Forest Item
opened_block f start body = pushed (appended f (begun_item start body)) (record { 0 = length f.nodes })
