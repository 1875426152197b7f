-- A container that begins at a place, in terms of the pass, and the state after it is opened (only calls of this
-- crate and private functions cite this).
use Rattle.std.specs.Prelude.{◌≡◌, ◌≤◌, ℕ, Bool, true, false, Option, Some, None, if◌then◌else◌}
use Rattle.first_pass_items.specs.Bytes.{colon, left_bracket}
use Rattle.first_pass_items.specs.declared.item.Item.{Item}
use Rattle.first_pass_items.specs.declared.item.ItemBody.TheVariants.{BlockQuote as BlockQuoteBody, ListItem as ListItemBody}
use Rattle.first_pass_grammar.specs.Blocks.{Opener as ContainerOpener, QuoteMarker, ItemMarker, FootnoteMarker, DefinitionMarker}
use Rattle.first_pass_grammar.specs.declared.kind.AfterMarker.{AfterMarker}
use Rattle.first_pass_grammar.specs.declared.kind.AfterMarker.TheVariants.{OnLine, TaskText, LineEnds, OnlyTag}
use Rattle.first_pass_grammar.specs.Openers.{Start as ContainerStart, after_task}
use Rattle.first_pass_lines.specs.Lines.{begins}
use Rattle.first_pass_lines.specs.Places.{Place}
use Rattle.first_pass_lines.specs.Plain.{begins_inert}
use Rattle.first_pass_lines.specs.Rest.{Rest, indent}
use Rattle.first_pass_grammar.specs.Order.{is_task_marker}
use Rattle.first_pass_grammar.specs.OpenOrder.{is_in_item}
use Rattle.first_pass_grammar.specs.Kinds.{all_taken}
use Rattle.first_pass_lists.specs.Closing.{top_body, is_list, begun, list_finished, list_continued, definition_begun}
use Rattle.first_pass_lists.specs.declared.list.ListMarker.{ListMarker}
use Rattle.first_pass_lists.specs.declared.state.PassState.{PassState}
use Rattle.first_pass_open.specs.OpenBlock.{with_child}
use Rattle.first_pass_containers.specs.Positions.{Position, LineAt, InLine, LeafAt, TaskAt, TaggedAt}
use Rattle.first_pass_containers.specs.declared.openers.Opener.{Opener}
use Rattle.first_pass_containers.specs.declared.openers.Opener.TheVariants.{Quote, Item as ItemOpener, Definition as DefinitionOpener}
use Rattle.first_pass_containers.specs.declared.openers.Start.{Start}

-- the second rest of a line is the first after its indentation, of fewer than four columns (CommonMark 2.2)
pub record IsIndented (r mark : Rest) (columns : ℕ) : Type 0 where
  pub few : columns ≤ 3
  pub columns_are : columns ≡ indent r
  pub mark_is : mark ≡ all_taken r

-- the marker of a list item, from its byte, its number and its indent
abbrev pub marker_of : ℕ × ℕ × ℕ → ListMarker
marker_of m = record { byte = m.0; number = m.1; indent = m.2 }

-- the pass's opener matches the grammar's; the pass has none for footnote definitions, which it opens separately
-- (this project)
abbrev pub OpenerMatches : ContainerOpener → Opener → Type 0
OpenerMatches (QuoteMarker kind) o = o ≡ Quote kind
OpenerMatches (ItemMarker byte number columns) o = o ≡ ItemOpener (marker_of (byte, number, columns))
OpenerMatches (FootnoteMarker columns index label) o = ⊥
OpenerMatches (DefinitionMarker columns) o = o ≡ DefinitionOpener columns

-- the start of a container in terms of the pass matches the grammar's (this project)
pub record StartMatches (s : ContainerStart) (t : Start) : Type 0 where
  pub opener : OpenerMatches s.head.opener t.opener
  pub start : t.start ≡ s.head.start
  pub after : t.after ≡ s.after

-- what follows an item's marker, with the marker of a task or without; `is_over` if the line ends there
abbrev pub item_after : Option Item → Bool → AfterMarker
item_after marker is_over = if is_over then LineEnds marker else after_task marker

-- the state after a container is opened, with the list that it needs; it starts at the second offset, in the line at
-- the first
abbrev pub container_opened : ℕ → ℕ → Opener → PassState → PassState
container_opened line start (Quote kind) r = begun start (BlockQuoteBody kind) (list_finished line r)
container_opened line start (ItemOpener m) r = begun start (ListItemBody m.indent) (list_continued start m.byte m.number r)
container_opened line start (DefinitionOpener columns) r = definition_begun start columns r

-- the state after a marker is read; if the line ends there, at an offset, the item is empty
abbrev pub after_read : AfterMarker → ℕ → PassState → PassState
after_read OnLine e r = r
after_read (TaskText marker) e r = r
after_read (LineEnds marker) e r = record r { tree = with_child r.tree marker; begin_list_item = Some e }
after_read OnlyTag e r = r

-- the state after a container is opened and its marker is read, in a line that ends at an offset
abbrev pub start_opened : ℕ → Start → ℕ → PassState → PassState
start_opened line s e r = after_read s.after e (container_opened line s.start s.opener r)

-- the position after a marker, given the place of the rest of its line and the end of that line
abbrev pub after_at : Place → ℕ → AfterMarker → Position
after_at p e OnLine = InLine p
after_at p e (TaskText marker) = TaskAt p marker
after_at p e (LineEnds marker) = LineAt e
after_at p e OnlyTag = TaggedAt e

-- the same if no other container begins
abbrev pub last_at : Place → ℕ → AfterMarker → Position
last_at p e OnLine = LeafAt p
last_at p e after = after_at p e after

-- no item is empty after a marker, unless its line ends there; the marker of a task is in an item
abbrev pub IsAfterMarker : AfterMarker → PassState → Type 0
IsAfterMarker OnLine r = r.begin_list_item ≡ None
IsAfterMarker (TaskText marker) r = (is_task_marker marker.body ≡ true) × (r.begin_list_item ≡ None) × (is_in_item r.tree ≡ true)
IsAfterMarker (LineEnds marker) r = Unit {0}
IsAfterMarker OnlyTag r = r.begin_list_item ≡ None

-- No column is owed, and the next byte is no space or tab and begins no container: no bullet, digit or `>`, no `:` of
-- a definition, and no `[` of a footnote definition (this project).
pub record BeginsNoContainer (r : Rest) : Type 0 where
  pub owed : r.owed ≡ 0
  pub inert : begins_inert r.left ≡ true
  pub colon : begins colon r.left ≡ false
  pub bracket : begins left_bracket r.left ≡ false

-- The innermost open node is no list, no item is empty, and no counting blank line is pending, as right after the marker
-- of a container. A block that begins there ends no list, and is no title (this project).
pub record FinishesNothing (r : PassState) : Type 0 where
  pub none : r.begin_list_item ≡ None
  pub blank : r.blank ≡ false
  pub plain : is_list (top_body r.tree) ≡ false
