-- The final state of a tree that lends out one of its items as `&mut`.
use Rattle.std.specs.Borrow.{Lends, MutBor, Fml}
use Rattle.first_pass_tree.specs.declared.tree_index.TreeIndex.{TreeIndex}
use Rattle.first_pass_items.specs.declared.item.Item.{Item}
use Rattle.first_pass_tree.specs.Forest.{Forest, with_item}
use Rattle.first_pass_tree.specs.contracts.forest.Tree.{the_row}
use Rattle.first_pass_items.specs.contracts.item.Item.{the_row as item_row}

-- when the borrow has ended, the node has the item that was last written through it
abbrev pub LendsItem : MutBor (Forest Item) → TreeIndex → MutBor Item → Fml
LendsItem s ix r = Lends (the_row item_row) item_row s r (with_item s.now ix)
