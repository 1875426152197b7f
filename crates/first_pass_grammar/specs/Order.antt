-- Order: which ranges are inside one another, and which follow one another (this project).
use Rattle.std.specs.Prelude.{◌≡◌, ◌⊎◌, ℕ, suc, ◌+◌, ◌-◌, ◌*◌, ◌<◌, ◌≤◌, Bool, true, false, List, [], ◌∷◌, ◌++◌, length, map, IsCharBoundary, if◌then◌else◌}
use Rattle.first_pass_items.specs.declared.item.Item.{Item}
use Rattle.first_pass_items.specs.declared.item.ItemBody.{ItemBody}
use Rattle.first_pass_items.specs.declared.item.ItemBody.TheVariants.{Paragraph, TightParagraph, Heading, TaskListMarker, ListItem, DefinitionList}
use Rattle.first_pass_items.specs.declared.item.ItemBody.TheVariants.{DefinitionListTitle, MaybeDefinitionListTitle}
use Rattle.first_pass_grammar.specs.Counting.{counted_nodes}

-- the range of a node, and whether it is a text block (a paragraph, heading or title), a task list item marker, a list
-- item, or a definition list
pub record Ranged : Type 0 where
  pub start : ℕ
  pub «end» : ℕ
  pub text_block : Bool
  pub marker : Bool
  pub item : Bool
  pub definitions : Bool

abbrev pub is_text_block : ItemBody → Bool
is_text_block Paragraph = true
is_text_block TightParagraph = true
is_text_block (Heading level ix) = true
is_text_block DefinitionListTitle = true
is_text_block MaybeDefinitionListTitle = true
is_text_block _ = false

abbrev pub is_task_marker : ItemBody → Bool
is_task_marker (TaskListMarker checked) = true
is_task_marker _ = false

abbrev pub is_list_item : ItemBody → Bool
is_list_item (ListItem columns) = true
is_list_item _ = false

abbrev pub is_definition_list : ItemBody → Bool
is_definition_list (DefinitionList flags) = true
is_definition_list _ = false

abbrev pub extent_of : Item → Ranged
extent_of x = record {
  start = x.start;
  «end» = x.«end»;
  text_block = is_text_block x.body;
  marker = is_task_marker x.body;
  item = is_list_item x.body;
  definitions = is_definition_list x.body;
}

-- the extents of nodes, each with its depth
abbrev pub extents : List (ℕ × Item) → List (ℕ × Ranged)
extents nodes = map (λ n. (n.0, extent_of n.1)) nodes

-- sibling nodes: the first one, the nodes below it, and the siblings after it
pub data Siblings : Type 0 where
  Empty : Siblings
  Node : Ranged → Siblings → Siblings → Siblings

-- siblings in reading order, each node with its depth, which is this one for the siblings themselves
unfoldable pub laid : ℕ → Siblings → List (ℕ × Ranged)
laid depth Empty = []
laid depth (Node x kids next) = (depth, x) ∷ (laid (suc depth) kids ++ laid depth next)

-- a range between two offsets that begins and ends at character boundaries
pub record IsBetween (text : List ℕ) (from to : ℕ) (x : Ranged) : Type 0 where
  pub following : from ≤ x.start
  pub order : x.start ≤ x.«end»
  pub before : x.«end» ≤ to
  pub starts : IsCharBoundary text x.start
  pub ends : IsCharBoundary text x.«end»

-- Where siblings are (GFM 5.3, and this project).
-- Elsewhere.
-- Directly in a list item.
-- Directly in a text block of an item, or in the first title of a definition list directly in an item: the offset from
-- which on a task list item marker may start before that block.
-- Directly in such a definition list: the same offset.
pub data Within : Type 0 where
  Elsewhere : Within
  InItem : Within
  InText : ℕ → Within
  InFirst : ℕ → Within

-- where the children of a node are, given where the node is and the offset after which it starts
abbrev pub below : Within → ℕ → Ranged → Within
below Elsewhere from x = if x.item then InItem else Elsewhere
below InItem from x = if x.item then InItem else (if x.text_block then InText from else (if x.definitions then InFirst from else Elsewhere))
below (InText before) from x = if x.item then InItem else Elsewhere
below (InFirst before) from x = if x.item then InItem else (if x.text_block then InText before else Elsewhere)

-- where the next sibling of a node is
abbrev pub beyond : Within → Within
beyond Elsewhere = Elsewhere
beyond InItem = InItem
beyond (InText before) = Elsewhere
beyond (InFirst before) = Elsewhere

-- the task list item marker that is first in its paragraph, heading or title of a definition list
abbrev pub IsLead : List ℕ → Within → ℕ → Ranged → Type 0
IsLead text Elsewhere from x = ⊥
IsLead text InItem from x = ⊥
IsLead text (InFirst before) from x = ⊥
IsLead text (InText before) from x = (x.marker ≡ true) × IsBetween text before from x

-- The siblings lie between two offsets in order, and the nodes below each sibling lie within it. Only a task list item
-- marker that is first in a paragraph, heading or title of a definition list may start before that block. It then
-- starts in the list item around the block, where the block itself might start (GFM 5.3, and this project).
unfoldable pub Fits : List ℕ → Within → ℕ → ℕ → Siblings → Type 0
Fits text within from to Empty = from ≤ to
Fits text within from to (Node x kids next) =
    (IsBetween text from to x × Fits text (below within from x) x.start x.«end» kids × Fits text (beyond within) x.«end» to next)
    ⊎ (IsLead text within from x × Fits text Elsewhere x.start x.«end» kids × Fits text Elsewhere from to next)

-- The items of a block, with depths relative to it, lie between two offsets in order. If the offsets differ, the block
-- has at most four counted items for each byte between them.
abbrev pub FitsBetween : List ℕ → Within → ℕ → ℕ → List (ℕ × Item) → Type 0
FitsBetween text within from to items =
    (row : Siblings) × (extents items ≡ laid 0 row) × Fits text within from to row × (from < to → counted_nodes items ≤ 4 * (to - from))

-- The new nodes have at most four more counted ones than the old for each byte between two offsets.
abbrev pub GrowsBy : ℕ → ℕ → List (ℕ × Item) → List (ℕ × Item) → Type 0
GrowsBy from to old new = counted_nodes new ≤ counted_nodes old + 4 * (to - from)

-- The nodes of a finished tree, including the root, lie in order between 0 and the length of the text.
abbrev pub IsOrdered : List ℕ → List (ℕ × Item) → Type 0
IsOrdered text nodes = (row : Siblings) × (extents nodes ≡ laid 0 row) × Fits text Elsewhere 0 (length text) row
