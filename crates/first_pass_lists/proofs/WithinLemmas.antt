-- The index of an open node is below the number of nodes.
use Rattle.std.proofs.Common.{◌≡◌, ℕ, ◌<◌, Bool, true, false, true≢false, List, [], ◌∷◌, length, slice_get, Option, Some, None, IsSome, refl, sym}
use Rattle.std.proofs.Common.{◌∙◌, option_and_then, arith}
use Rattle.first_pass_grammar.proofs.Common.{Item, ItemBody, TreeIndex, Forest, IsForest, body_at, length-modify}
use Rattle.first_pass_open.specs.OpenBlock.{closed_by}
use Rattle.first_pass_lists.specs.Closing.{top_body, is_list, is_item}
use Rattle.first_pass_open.proofs.BlockLemmas.{open_node_at, open_node_in}

-- the open node around the innermost one has such an index
pub second_within : (f : Forest Item) (ix : TreeIndex) → IsForest f → slice_get f.spine 1 ≡ Some ix → ix.0 < length f.nodes
second_within f ix forest h = open_node_at f 1 ix forest h

closed_length : (f : Forest Item) (e : ℕ) (spine : List TreeIndex) → length (closed_by f e spine).nodes ≡ length f.nodes
closed_length f e [] = refl
closed_length f e (ix ∷ rest) = length-modify f.nodes ix.0 _

-- the innermost open node still has such an index after it is closed
pub closed_within : (f g : Forest Item) (e : ℕ) (ix : TreeIndex)
    → IsForest f → slice_get f.spine 0 ≡ Some ix → g ≡ closed_by f e f.spine → ix.0 < length g.nodes
closed_within f g e ix forest h is = grind (arith, closed_length, open_node_in)

-- if the innermost open node has a body, a node other than the root is open
body_open : (test : Option ItemBody → Bool) (nodes : List (ℕ × Item)) (spine : List TreeIndex) → test None ≡ false
    → test (option_and_then (λ (ix : TreeIndex). body_at nodes ix.0) (slice_get spine 0)) ≡ true → IsSome (slice_get spine 0)
body_open test nodes [] none h = absurd (true≢false (sym h ∙ none))
body_open test nodes (ix ∷ spine) none h = refl

pub item_is_open : (f : Forest Item) → is_item (top_body f) ≡ true → IsSome (slice_get f.spine 0)
item_is_open f h = body_open is_item f.nodes f.spine refl h

pub list_is_open : (f : Forest Item) → is_list (top_body f) ≡ true → IsSome (slice_get f.spine 0)
list_is_open f h = body_open is_list f.nodes f.spine refl h
