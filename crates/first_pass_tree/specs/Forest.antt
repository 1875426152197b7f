-- The value of a `Tree` in contracts, and the result of each call on it. All terms are this project's.
use Rattle.std.specs.Prelude.{◌≡◌, ℕ, ◌+◌, ◌-◌, ◌<◌, ◌≤◌, ◌^◌, ◌==◌, ◌&&◌, Bool, true, false, nat_lt, zero, suc, List, [], ◌∷◌, ◌++◌, length, map, take, drop}
use Rattle.std.specs.Prelude.{nat_le, Option, Some, None, IfSome, IsSomeAnd, slice_index, slice_get, if◌then◌else◌}
use Rattle.std.specs.Option.{option_map}
use Rattle.std.specs.List.{prefix_len}
use Rattle.first_pass_tree.specs.declared.tree_index.TreeIndex.{TreeIndex}
use Rattle.first_pass_items.specs.declared.item.Item.{Item}
use Rattle.first_pass_items.specs.declared.item.ItemBody.{ItemBody}
use Rattle.first_pass_items.specs.declared.item.ItemBody.TheVariants.{Root, Text, Table, TableHead, TableRow, TableCell}

-- A tree as a list: the items in reading order, each with its depth (the root's is 0). The spine has the indices of the
-- open nodes without the root, innermost first. The current node is given by its index.
pub record Forest (T : Type 0) : Type 0 where
  pub nodes : List (ℕ × T)
  pub spine : List TreeIndex
  pub current : Option TreeIndex

module _ {T : Type 0} where
  -- the depths in reading order
  abbrev pub depths : List (ℕ × T) → List ℕ
  depths ns = map (λ n. n.0) ns

  -- the item at an index
  abbrev pub item_at : Forest T → TreeIndex → Option T
  item_at f ix = option_map (λ n. n.1) (slice_get f.nodes ix.0)

  -- the nodes with a function applied to the item at an index
  abbrev pub modify : List (ℕ × T) → ℕ → (T → T) → List (ℕ × T)
  modify [] i g = []
  modify (n ∷ ns) zero g = (n.0, g n.1) ∷ ns
  modify (n ∷ ns) (suc i) g = n ∷ modify ns i g

  -- the forest with another item at an index
  abbrev pub with_item : Forest T → TreeIndex → T → Forest T
  with_item f ix x = record f { nodes = modify f.nodes ix.0 (λ _. x) }

  -- the forest with a function applied to the item at an index
  abbrev pub modified : Forest T → TreeIndex → (T → T) → Forest T
  modified f ix g = record f { nodes = modify f.nodes ix.0 g }

-- the node at the index i has depth d, and all nodes after it are deeper: it is the last of its depth, and they are its
-- descendants
pub record IsLastAt (ds : List ℕ) (d : ℕ) (i : ℕ) : Type 0 where
  pub within : i < length ds
  pub depth : slice_index ds i ≡ d
  pub following : (k : ℕ) → i < k → k < length ds → d < slice_index ds k

-- the open nodes, innermost first, are each the last of their depth, and so is the root
abbrev pub IsOpenPath : List ℕ → List TreeIndex → Type 0
IsOpenPath ds [] = IsLastAt ds 0 0
IsOpenPath ds (i ∷ is) = IsLastAt ds (length is + 1) i.0 × IsOpenPath ds is

-- each depth is at most one more than the depth before it
abbrev pub IsPreorder : List ℕ → Type 0
IsPreorder ds = (k : ℕ) → k + 1 < length ds → slice_index ds (k + 1) ≤ slice_index ds k + 1

-- The invariant of a tree. The list is a tree in reading order. The open nodes are a path from the root along its last
-- nodes. The current node, if there is one, is the last child of the innermost open node.
pub record IsForest {T : Type 0} (f : Forest T) : Type 0 where
  pub preorder : IsPreorder (depths f.nodes)
  pub opened : IsOpenPath (depths f.nodes) f.spine
  pub at_current : IfSome f.current (λ c. IsLastAt (depths f.nodes) (length f.spine + 1) c.0)

-- the first index, from another on, at which the depth is at most this one; the length if there is none
abbrev pub run_end : List ℕ → ℕ → ℕ → ℕ
run_end ds depth from = from + prefix_len (λ d. nat_lt depth d) (drop from ds)

-- each depth is less than 2^63, so it can be increased by one
abbrev pub IsShallow : List ℕ → Type 0
IsShallow ds = (k : ℕ) → k < length ds → slice_index ds k < 2 ^ 63

-- the index after a node and all its descendants
abbrev pub end_of : List ℕ → ℕ → ℕ
end_of ds i = run_end ds (slice_index ds i) (i + 1)

-- the index of a node's first child: the next index, if the node there is deeper
abbrev pub child_of : List ℕ → ℕ → Option TreeIndex
child_of ds i = if nat_lt (slice_index ds i) (slice_index ds (i + 1)) then Some (record { 0 = i + 1 }) else None

-- the index of a node's next sibling: the index after its descendants, if the node there has the same depth
abbrev pub sibling_of : List ℕ → ℕ → Option TreeIndex
sibling_of ds i =
    if nat_lt (end_of ds i) (length ds) && (slice_index ds (end_of ds i) == slice_index ds i) then Some (record { 0 = end_of ds i }) else None

-- the index of the innermost open node, which may be the root
abbrev pub open_place : List TreeIndex → ℕ
open_place [] = 0
open_place (i ∷ is) = i.0

-- the tree that has only the root
abbrev pub empty_forest : Forest Item
empty_forest = record { nodes = (0, record { start = 0; «end» = 0; body = Root }) ∷ []; spine = []; current = None }

module _ {T : Type 0} where
  -- the forest with a new last child of the innermost open node, which becomes current
  abbrev pub appended : Forest T → T → Forest T
  appended f x = record f { nodes = f.nodes ++ (length f.spine + 1, x) ∷ []; current = Some (record { 0 = length f.nodes }) }

  -- the forest with the current node opened
  abbrev pub pushed : Forest T → TreeIndex → Forest T
  pushed f c = record f { spine = c ∷ f.spine; current = None }

  -- the forest with the innermost open node closed
  abbrev pub popped : Forest T → TreeIndex → List TreeIndex → Forest T
  popped f c rest = record f { spine = rest; current = Some c }

  -- the node one level deeper
  abbrev pub deeper : ℕ × T → ℕ × T
  deeper n = (n.0 + 1, n.1)

  -- the list with a function applied to each element from an index on
  abbrev pub map_from : (ℕ × T → ℕ × T) → ℕ → List (ℕ × T) → List (ℕ × T)
  map_from g zero ns = map g ns
  map_from g (suc i) [] = []
  map_from g (suc i) (n ∷ ns) = n ∷ map_from g i ns

  -- the forest with a new node between the current node and its children
  abbrev pub wrapped : Forest T → TreeIndex → T → Forest T
  wrapped f c x = record f {
    nodes = take (c.0 + 1) f.nodes ++ (length f.spine + 2, x) ∷ map deeper (drop (c.0 + 1) f.nodes);
  }

  -- the node is a child of the innermost open node
  pub record IsChild (f : Forest T) (ix : TreeIndex) : Type 0 where
    pub within : ix.0 < length f.nodes
    pub depth : slice_index (depths f.nodes) ix.0 ≡ length f.spine + 1
    pub following : open_place f.spine < ix.0

  -- the forest with only the first n nodes
  abbrev pub cut_to : Forest T → ℕ → Forest T
  cut_to f n = record f { nodes = take n f.nodes }

module _ {T : Type 0} where
  -- the forest without the siblings after a node and their descendants; the node is current
  abbrev pub kept_after : Forest T → TreeIndex → Forest T
  kept_after f ix = record f { nodes = take (end_of (depths f.nodes) ix.0) f.nodes; current = Some ix }

  -- the forest without the descendants of the innermost open node; no node is current
  abbrev pub childless : Forest T → TreeIndex → Forest T
  childless f ix = record f { nodes = take (ix.0 + 1) f.nodes; current = None }

-- the body is a text
abbrev pub is_text : ItemBody → Bool
is_text (Text b) = true
is_text _ = false

-- there is an item, and it is a text that ends at this offset
abbrev pub ends_text_at : ℕ → Option Item → Bool
ends_text_at at None = false
ends_text_at at (Some x) = is_text x.body && (x.«end» == at)

-- the current node is a text that ends at this offset
abbrev pub joins_at : Forest Item → ℕ → Option TreeIndex → Bool
joins_at f at None = false
joins_at f at (Some c) = ends_text_at at (item_at f c)

-- the forest with another end of the item at an index
abbrev pub with_end_at : Forest Item → TreeIndex → ℕ → Forest Item
with_end_at f c e = record f { nodes = modify f.nodes c.0 (λ x. record x { «end» = e }) }

-- the forest with another body of the item at an index
abbrev pub with_body_at : Forest Item → TreeIndex → ItemBody → Forest Item
with_body_at f c b = record f { nodes = modify f.nodes c.0 (λ x. record x { body = b }) }

-- the forest with another end of the current item, if there is one
abbrev pub with_end : Forest Item → ℕ → Option TreeIndex → Forest Item
with_end f e None = f
with_end f e (Some c) = with_end_at f c e

-- The forest with one more text, unless that text is empty. If the current node is a text that ends where the new one
-- begins, the two are joined.
abbrev pub with_text : Forest Item → ℕ → ℕ → Bool → Forest Item
with_text f s e b =
    if s == e
    then f
    else (if joins_at f s f.current then with_end f e f.current else appended f (record { start = s; «end» = e; body = Text b }))

-- the body of the node at an index
abbrev pub body_at : List (ℕ × Item) → ℕ → Option ItemBody
body_at ns i = option_map (λ n. n.1.body) (slice_get ns i)

-- the node is a table, or it is a table head, row or cell and `outer` holds
abbrev pub in_table_by : Bool → Option ItemBody → Bool
in_table_by outer None = false
in_table_by outer (Some (Table a)) = true
in_table_by outer (Some TableHead) = outer
in_table_by outer (Some TableRow) = outer
in_table_by outer (Some TableCell) = outer
in_table_by outer (Some _) = false

-- the innermost open node is a table or a part of one: the open nodes from it outwards are table heads, rows and cells,
-- up to a table
abbrev pub in_table : List (ℕ × Item) → List TreeIndex → Bool
in_table ns [] = false
in_table ns (i ∷ is) = in_table_by (in_table ns is) (body_at ns i.0)

-- a text whose first byte follows a backslash
abbrev pub is_escaped : ItemBody → Bool
is_escaped (Text b) = b
is_escaped _ = false

-- the item with its end moved back to this offset, if it ends later
abbrev pub cut_item : ℕ → Item → Item
cut_item e x = if nat_lt e x.«end» then record x { «end» = e } else x

-- The nodes below a node, cut at an offset. The children of that node, the tokens, have this depth. A token that starts
-- before the offset stays, with its descendants, and ends at or before the offset. The first other token is removed,
-- with all nodes after it. If that token is a text that starts at the offset after a backslash, the backslash stays as
-- a text.
abbrev pub cut_tokens : ℕ → ℕ → List (ℕ × Item) → List (ℕ × Item)
cut_tokens e d [] = []
cut_tokens e d (n ∷ ns) =
    if nat_lt d n.0
    then n ∷ cut_tokens e d ns
    else (if nat_lt n.1.start e
    then (n.0, cut_item e n.1) ∷ cut_tokens e d ns
    else (if is_escaped n.1.body && (n.1.start == e) then (n.0, record { start = e - 1; «end» = e; body = Text false }) ∷ [] else []))

-- there is exactly one node; it starts before this offset, and ends at or before it
abbrev pub is_single_before : ℕ → List (ℕ × Item) → Bool
is_single_before e [] = false
is_single_before e (n ∷ []) = nat_lt n.1.start e && nat_le n.1.«end» e
is_single_before e (n ∷ m ∷ ns) = false

-- no child of the innermost open node has children
abbrev pub HasLeaves : {T : Type 0} → Forest T → Type 0
HasLeaves f = (k : ℕ) → open_place f.spine < k → k < length f.nodes → slice_index (depths f.nodes) k ≡ length f.spine + 1

-- the last index before another at which the depth is this one; 0 if there is none
abbrev pub last_before : List ℕ → ℕ → ℕ → ℕ
last_before ds d zero = 0
last_before ds d (suc k) = if slice_index ds k == d then k else last_before ds d k

-- the last child of the innermost open node among these nodes, if it has any
abbrev pub last_child : List TreeIndex → List (ℕ × Item) → Option TreeIndex
last_child spine ns =
    if nat_lt (open_place spine + 1) (length ns) then Some (record { 0 = last_before (depths ns) (length spine + 1) (length ns) }) else None

-- the forest with the children of the innermost open node cut at an offset; the last of them is current
abbrev pub cut_siblings : Forest Item → ℕ → Forest Item
cut_siblings f e =
    let ns = take (open_place f.spine + 1) f.nodes ++ cut_tokens e (length f.spine + 1) (drop (open_place f.spine + 1) f.nodes) in
    record f { nodes = ns; current = last_child f.spine ns }

-- A block is a list of items in reading order, each with its depth: first its own item, at depth 0, then its
-- descendants. This is the same block with its own item at depth d.
abbrev pub at_depth : {T : Type 0} → ℕ → List (ℕ × T) → List (ℕ × T)
at_depth d [] = []
at_depth d (n ∷ ns) = (d + n.0, n.1) ∷ at_depth d ns

-- the forest with a block as the new last child of the innermost open node, which becomes current
abbrev pub added : {T : Type 0} → Forest T → List (ℕ × T) → Forest T
added f block = record f { nodes = f.nodes ++ at_depth (length f.spine + 1) block; current = Some (record { 0 = length f.nodes }) }

-- the block of an item that has these blocks as children
abbrev pub block_of : {T : Type 0} → T → List (ℕ × T) → List (ℕ × T)
block_of x kids = (0, x) ∷ at_depth 1 kids

-- the block of the text between two offsets; nothing if the second is not after the first
abbrev pub text_between : ℕ → ℕ → List (ℕ × Item)
text_between s e = if nat_lt s e then (0, record { start = s; «end» = e; body = Text false }) ∷ [] else []

-- the node one level higher up
abbrev pub shallower : {T : Type 0} → ℕ × T → ℕ × T
shallower n = (n.0 - 1, n.1)

-- the node is a child of the current node
pub record IsChildOfCurrent {T : Type 0} (f : Forest T) (ix : TreeIndex) : Type 0 where
  pub within : ix.0 < length f.nodes
  pub depth : slice_index (depths f.nodes) ix.0 ≡ length f.spine + 2
  pub current : IsSomeAnd f.current (λ c. c.0 < ix.0)

-- an index after the current node: the number of nodes, or the index of a node at most as deep as a child of the
-- current node
pub record CanMoveFrom {T : Type 0} (f : Forest T) (index : ℕ) : Type 0 where
  pub within : index ≤ length f.nodes
  pub depth : index < length f.nodes → slice_index (depths f.nodes) index ≤ length f.spine + 2
  pub current : IsSomeAnd f.current (λ c. c.0 < index)

-- the forest with each node from an index on moved one level up; the last node of the current node's depth is current
abbrev pub moved_from : {T : Type 0} → Forest T → ℕ → Forest T
moved_from f index =
    let ns = map_from shallower index f.nodes in
    record f { nodes = ns; current = Some (record { 0 = last_before (depths ns) (length f.spine + 1) (length ns) }) }

-- the forest with the later siblings of a node, and their descendants, moved after the current node into its parent;
-- the last of them is current
abbrev pub moved_out : {T : Type 0} → Forest T → TreeIndex → Forest T
moved_out f ix = moved_from f (end_of (depths f.nodes) ix.0)
