-- Facts about a tree that a caller keeps over several calls.
use Rattle.std.proofs.Common.{◌≡◌, ℕ, ◌+◌, List, ◌∷◌, ◌++◌, length, arith, append_assoc, length-append, []}
use Rattle.first_pass_tree.proofs.Common.{TreeIndex, Forest, IsChild, appended, added, at_depth, length-map, map-append, get_or_append_left}
use Rattle.first_pass_tree.proofs.Blocks.{at_depth-append}

-- a child is still a child after nodes are added to the end of the list
pub child-kept : {T : Type 0} (f g : Forest T) (more : List (ℕ × T)) (ix : TreeIndex)
    → g.nodes ≡ f.nodes ++ more → g.spine ≡ f.spine → IsChild f ix → IsChild g ix
child-kept {T = T} f g more ix n s h = grind (arith, length-map, length-append, map-append, get_or_append_left)

-- the children so far, and one more block
pub more-added : {T : Type 0} (f g h : Forest T) (kids block : List (ℕ × T)) → g.nodes ≡ f.nodes ++ at_depth (length f.spine + 1) kids → g.spine ≡ f.spine
    → h ≡ added g block → h.nodes ≡ f.nodes ++ at_depth (length f.spine + 1) (kids ++ block)
more-added {T = T} f g h kids block n s e = grind (arith, append_assoc, at_depth-append)

-- adding an item is adding a block that has only this item
pub appended-block : {T : Type 0} (f : Forest T) (x : T) → appended f x ≡ added f ((0, x) ∷ [])
appended-block f x = grind arith

-- a text after a text that ends at its start is joined to it
