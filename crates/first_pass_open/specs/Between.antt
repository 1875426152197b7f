-- What holds of a block whose nodes are added between two offsets, and the end of a line.
use Rattle.std.specs.Prelude.{◌≡◌, ℕ, ◌+◌, ◌≤◌, true, List, drop, Option, Some, None}
use Rattle.first_pass_items.specs.declared.item.Item.{Item}
use Rattle.first_pass_tree.specs.Forest.{Forest, added}
use Rattle.first_pass_lines.specs.Lines.{line_len}
use Rattle.first_pass_grammar.specs.Order.{extent_of, is_task_marker, IsBetween, FitsBetween}
use Rattle.first_pass_grammar.specs.OpenOrder.{is_in_item, within_top}

-- the end of the line that an offset is in, after its line ending
abbrev pub line_end_at : List ℕ → ℕ → ℕ
line_end_at text at = at + line_len (drop at text)

-- A block is added as the last child of the innermost open node. Its nodes are between two offsets, in order. If the
-- offsets differ, it has at most four counted nodes (`counted_nodes`) for each byte between them.
pub record AddsBetween (text : List ℕ) (from to : ℕ) (old new : Forest Item) : Type 0 where
  pub items : List (ℕ × Item)
  pub tree_is : new ≡ added old items
  pub fits : FitsBetween text (within_top old) from to items

-- Before a block that starts at the second offset: the first offset is not after the second. If a marker is given, it
-- is a task list item marker between them.
abbrev pub MarkerBetween : List ℕ → ℕ → ℕ → Option Item → Type 0
MarkerBetween text from to None = from ≤ to
MarkerBetween text from to (Some x) = (is_task_marker x.body ≡ true) × IsBetween text from to (extent_of x)

-- if a task list item marker is given, the innermost open node is a list item (GFM 5.3)
abbrev pub MarkerIsInItem : Forest Item → Option Item → Type 0
MarkerIsInItem f None = Unit {0}
MarkerIsInItem f (Some x) = is_in_item f ≡ true
