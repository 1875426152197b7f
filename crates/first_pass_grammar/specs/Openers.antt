-- The block quote, list item or definition that begins at a place, and what follows its marker (CommonMark 5.1, 5.2,
-- and this project).
use Rattle.std.specs.Prelude.{ℕ, Bool, Option, Some, None, if◌then◌else◌}
use Rattle.std.specs.Option.{option_map, option_or}
use Rattle.first_pass_items.specs.declared.item.Item.{Item}
use Rattle.first_pass_items.specs.declared.item.BlockQuoteKind.{BlockQuoteKind}
use Rattle.first_pass_items.specs.declared.item.ItemBody.TheVariants.{TaskListMarker}
use Rattle.first_pass_items.specs.declared.option_set.Options.{Options}
use Rattle.first_pass_items.specs.OptionWords.{has, tasklists, gfm}
use Rattle.first_pass_lines.specs.Rest.{Rest}
use Rattle.first_pass_lines.specs.Places.{Place, place_at, offset}
use Rattle.first_pass_scan.specs.Markers.{task_of, past_tag}
pub use Rattle.first_pass_grammar.specs.declared.kind.AfterMarker.{AfterMarker}
pub use Rattle.first_pass_grammar.specs.declared.kind.AfterMarker.TheVariants.{OnLine, TaskText, LineEnds, OnlyTag}
use Rattle.first_pass_grammar.specs.declared.kind.Container.TheVariants.{BlockQuote}
use Rattle.first_pass_grammar.specs.Blocks.{QuoteMarker, ItemMarker, DefinitionMarker, Head}
use Rattle.first_pass_grammar.specs.Containers.{prefix}
use Rattle.first_pass_grammar.specs.Kinds.{is_blank_rest, quote_start, item_at, definition_marker_at}

-- the start of a block quote, a list item or a definition: its head, what follows its marker, and the rest of the line
-- there
pub record Start : Type 0 where
  pub head : Head
  pub after : AfterMarker
  pub rest : Rest

-- A list item starts at the place before the indentation of its marker (this project).
abbrev pub item_head : Place → ℕ → ℕ → ℕ → Head
item_head p byte number columns = record { opener = ItemMarker byte number columns; line = p.line; start = offset p }

abbrev pub task_by : ℕ → Rest → Option (Bool × Rest) → Option Item × Rest
task_by line r None = (None, r)
task_by line r (Some task) = (Some (record { start = offset (place_at line r); «end» = offset (place_at line task.1); body = TaskListMarker task.0 }), task.1)

-- the task list item marker after an item's own marker, if there is one and the option is on, and the rest of the
-- line, which begins at `line` (GFM 5.3)
abbrev pub task_after : Options → ℕ → Rest → Option Item × Rest
task_after options line r = task_by line r (if has options tasklists then task_of r else None)

-- what follows an item's marker, with or without a task list item marker
abbrev pub after_task : Option Item → AfterMarker
after_task None = OnLine
after_task (Some marker) = TaskText marker

abbrev pub after_item : Option Item → Rest → AfterMarker
after_item marker r = if is_blank_rest r then LineEnds marker else after_task marker

-- the list item whose marker has this byte, number and indent
abbrev pub item_start : Place → ℕ × ℕ × ℕ → Option Item × Rest → Start
item_start p (byte, number, columns) (marker, r) = record { head = item_head p byte number columns; after = after_item marker r; rest = r }

-- a block quote starts at its `>` (this project)
abbrev pub quote_head : Place → Option BlockQuoteKind → Head
quote_head p kind = record { opener = QuoteMarker kind; line = p.line; start = quote_start p }

-- the kind that the tag here gives a block quote, if there is a tag and the option is on (GitHub's alerts)
abbrev pub tag_after : Options → Rest → Option BlockQuoteKind
tag_after options r = option_map (λ tag. tag.0) (if has options gfm then past_tag r else None)

-- what follows a block quote's marker, with or without a tag
abbrev pub after_quote : Option BlockQuoteKind → AfterMarker
after_quote None = OnLine
after_quote (Some kind) = OnlyTag

-- the block quote that begins at a place, with or without a tag
abbrev pub quote_begun : Place → Option BlockQuoteKind → Rest → Start
quote_begun p kind r = record { head = quote_head p kind; after = after_quote kind; rest = r }

-- A definition, like a list item, starts at the place before the indentation of its marker (this project).
abbrev pub definition_head : Place → ℕ → Head
definition_head p columns = record { opener = DefinitionMarker columns; line = p.line; start = offset p }

-- the definition with this indent
abbrev pub definition_start : Place → ℕ × Rest → Start
definition_start p (columns, r) = record { head = definition_head p columns; after = after_item None r; rest = r }

-- the definition that begins at a place, if one may begin there (this project)
abbrev pub definition_at : Bool → Place → Option Start
definition_at may p = option_map (definition_start p) (if may then definition_marker_at p.rest else None)

-- the first of these that begins at a place, given that no footnote definition does: a list item (CommonMark 5.2), a
-- definition if one may (this project), a block quote (CommonMark 5.1)
unfoldable pub start_at : Options → Bool → Place → Option Start
start_at options may_define p =
    option_or (option_map (λ item. item_start p item.0 (task_after options p.line item.1)) (item_at p.rest))
    (option_or (definition_at may_define p) (option_map (λ r. quote_begun p (tag_after options r) r) (prefix (BlockQuote None) p.rest)))
