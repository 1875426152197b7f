-- Rows: what is side by side in a container after consecutive items become lists (CommonMark 5.2, 5.3).
use Rattle.std.specs.Prelude.{ℕ, ◌==◌, ◌&&◌, ◌||◌, not, Bool, true, false, Option, Some, None, if◌then◌else◌}
use Rattle.std.specs.Option.{option_map, option_map_or}
use Rattle.first_pass_items.specs.declared.item.CowIndex.{CowIndex}
use Rattle.first_pass_items.specs.declared.item.BlockQuoteKind.{BlockQuoteKind}
use Rattle.first_pass_grammar.specs.Kinds.{Kind, Paragraph}
use Rattle.first_pass_grammar.specs.Blocks.{LeafBlock, BlankLine, Block, Opener, QuoteMarker, ItemMarker, FootnoteMarker, DefinitionMarker, Head, opened}
use Rattle.first_pass_grammar.specs.Blocks.{Skeleton, Nil, Then, Node}
use Rattle.first_pass_grammar.specs.Before.{Before, nothing, is_after_definition, begins_paragraph, is_run, after_blank, after_block, after_container}
use Rattle.first_pass_grammar.specs.Before.{before_end}
use Rattle.first_pass_grammar.specs.Containers.{is_quote}

-- A definition list so far: without a title; with one; or with one that link reference definitions separate from the
-- first definition. The last one always begins a new list, even if a definition list precedes its title (this project).
pub data Titled : Type 0 where
  Untitled : Titled
  WithTitle : Titled
  Apart : Titled

-- What a row is.
-- A leaf block.
-- A block quote with its kind, a list with its byte and number, an item with its indent, or a footnote definition with
-- the index of its label; each with its end.
-- A definition list with its end; a title in one; or a definition in one, with its indent and its end (this project).
pub data What : Type 0 where
  ALeaf : LeafBlock → What
  AQuote : Option BlockQuoteKind → ℕ → What
  AList : ℕ → ℕ → ℕ → What
  AnItem : ℕ → ℕ → What
  AFootnote : CowIndex → ℕ → What
  ADefinitionList : Titled → ℕ → What
  ATitle : LeafBlock → What
  ADefinition : ℕ → ℕ → What

-- A row: what it is, the start of its line, its own start, and whether it has a gap before it. It has one if the blank
-- lines directly before it include a counting one (CommonMark 5.3).
pub record Row : Type 0 where
  pub what : What
  pub line : ℕ
  pub start : ℕ
  pub gap : Bool

-- rows side by side: none; or a row, the rows in it, and the rows after it
pub data Rows : Type 0 where
  End : Rows
  OneOf : Row → Rows → Rows → Rows

-- the same rows, the first one with or without a gap before it
abbrev pub gapped : Bool → Rows → Rows
gapped gap End = End
gapped gap (OneOf row inner next) = OneOf (record row { gap = gap }) inner next

-- one of these rows has a gap before it
unfoldable pub any_gap : Rows → Bool
any_gap End = false
any_gap (OneOf row inner next) = row.gap || any_gap next

-- A list with these items is loose if an item after its first has a gap before it, or a block directly in an item does
-- (CommonMark 5.3). A gap before the first item is a gap before the list.
unfoldable pub is_loose : Rows → Bool
is_loose End = false
is_loose (OneOf item blocks next) = item.gap || (any_gap blocks || is_loose next)

abbrev pub is_paragraph : Kind → Bool
is_paragraph Paragraph = true
is_paragraph _ = false

-- The end of a list before a row, given the start of the row's line and the start of the row. The list ends at the
-- start of the row if that is a text, an item of another list, a footnote definition or a definition list. Otherwise it
-- ends at the start of the line (this project).
abbrev pub closing_place : What → ℕ → ℕ → ℕ
closing_place (ALeaf block) line start = if is_paragraph block.kind then start else line
closing_place (AQuote kind e) line start = line
closing_place (AList byte number e) line start = start
closing_place (AnItem columns e) line start = start
closing_place (AFootnote index e) line start = start
closing_place (ADefinitionList t e) line start = start
closing_place (ATitle block) line start = start
closing_place (ADefinition columns e) line start = start

-- what continues a list: items with a byte (CommonMark 5.3), or definitions, after one that ends at an offset (this
-- project)
pub data Joins : Type 0 where
  ItemsOf : ℕ → Joins
  DefinitionsTo : ℕ → Joins

abbrev pub is_apart : Titled → Bool
is_apart Untitled = false
is_apart WithTitle = false
is_apart Apart = true

-- a row is a list that continues the one before it; a definition list with a separated title continues none
abbrev pub continues_list : Joins → What → Bool
continues_list (ItemsOf byte) (ALeaf block) = false
continues_list (ItemsOf byte) (AQuote kind e) = false
continues_list (ItemsOf byte) (AList list number e) = byte == list
continues_list (ItemsOf byte) (AnItem columns e) = false
continues_list (ItemsOf byte) (AFootnote index e) = false
continues_list (ItemsOf byte) (ADefinitionList t e) = false
continues_list (ItemsOf byte) (ATitle block) = false
continues_list (ItemsOf byte) (ADefinition columns e) = false
continues_list (DefinitionsTo until) (ALeaf block) = false
continues_list (DefinitionsTo until) (AQuote kind e) = false
continues_list (DefinitionsTo until) (AList list number e) = false
continues_list (DefinitionsTo until) (AnItem columns e) = false
continues_list (DefinitionsTo until) (AFootnote index e) = false
continues_list (DefinitionsTo until) (ADefinitionList t e) = not (is_apart t)
continues_list (DefinitionsTo until) (ATitle block) = false
continues_list (DefinitionsTo until) (ADefinition columns e) = false

-- A row that was read as a paragraph might have been the next title of the definition list before it; that list ends
-- with its last definition (this project).
abbrev pub was_possible_title : What → Bool
was_possible_title (ALeaf block) = is_paragraph block.kind
was_possible_title (AQuote kind e) = false
was_possible_title (AList byte number e) = false
was_possible_title (AnItem columns e) = false
was_possible_title (AFootnote index e) = false
was_possible_title (ADefinitionList t e) = true
was_possible_title (ATitle block) = false
was_possible_title (ADefinition columns e) = false

-- the end of a list before a row that is not its own (this project)
abbrev pub end_of_list_before : Joins → Row → ℕ
end_of_list_before (ItemsOf byte) row = closing_place row.what row.line row.start
end_of_list_before (DefinitionsTo until) row = if was_possible_title row.what then until else closing_place row.what row.line row.start

-- the end of a row that has rows in it
abbrev pub end_of_row : What → ℕ → ℕ
end_of_row (ALeaf block) last = last
end_of_row (AQuote kind e) last = e
end_of_row (AList byte number e) last = e
end_of_row (AnItem columns e) last = e
end_of_row (AFootnote index e) last = e
end_of_row (ADefinitionList t e) last = e
end_of_row (ATitle block) last = last
end_of_row (ADefinition columns e) last = e

-- For a list that these continue: its end, in a container that ends at an offset; its further items; and the rows
-- after it.
abbrev pub list_until : Joins → ℕ → Rows → ℕ
list_until joins last End = last
list_until joins last (OneOf row inner next) = if continues_list joins row.what then end_of_row row.what last else end_of_list_before joins row

abbrev pub items_after : Joins → Rows → Rows
items_after joins End = End
items_after joins (OneOf row inner next) = if continues_list joins row.what then gapped row.gap inner else End

abbrev pub list_after : Joins → Rows → Rows
list_after joins End = End
list_after joins (OneOf row inner next) = if continues_list joins row.what then next else OneOf row inner next

-- A container with these blocks, before rows: the first item of its list. The other items are those of the first row
-- if that is a list that continues this one; otherwise there are none. What precedes the first item precedes the list
-- (CommonMark 5.3).
abbrev pub in_list : ℕ → (ℕ → What) → Row → Rows → Rows → Joins → Rows
in_list last listed row blocks next joins =
    OneOf (record { what = listed (list_until joins last next); line = row.line; start = row.start; gap = row.gap })
    (OneOf (record row { gap = false }) blocks (items_after joins next)) (list_after joins next)

-- what a container that ends at an offset is as a row
abbrev pub what_of : Opener → ℕ → What
what_of (QuoteMarker kind) e = AQuote kind e
what_of (ItemMarker byte number columns) e = AnItem columns e
what_of (FootnoteMarker columns index label) e = AFootnote index e
what_of (DefinitionMarker columns) e = ADefinition columns e

-- the row of a container that ends at an offset, with or without a gap before it
abbrev pub row_of : Head → ℕ → Bool → Row
row_of head e gap = record { what = what_of head.opener e; line = head.line; start = head.start; gap = gap }

-- A container with this opener, before rows. A definition begins a definition list without a title, as an item begins
-- a list; a title may take that list in (this project).
abbrev pub container_row : ℕ → Opener → Row → Rows → Rows → Rows
container_row last (QuoteMarker kind) row inner next = OneOf row inner next
container_row last (ItemMarker byte number columns) row inner next = in_list last (AList byte number) row inner next (ItemsOf byte)
container_row last (FootnoteMarker columns index label) row inner next = OneOf row inner next
container_row last (DefinitionMarker columns) row inner next =
    in_list last (ADefinitionList Untitled) row inner next (DefinitionsTo (end_of_row row.what last))

-- the row of a leaf block, with or without a gap before it
abbrev pub row_of_leaf : LeafBlock → Bool → Row
row_of_leaf block gap = record { what = ALeaf block; line = block.line; start = block.start; gap = gap }

-- The definitions without a title at the start of rows, perhaps after link reference definitions. Given are the end of
-- their list, the definitions, the rows beside them, and whether link reference definitions precede them (this
-- project).
pub record Definitions : Type 0 where
  pub «end» : ℕ
  pub items : Rows
  pub beside : Rows
  pub apart : Bool

-- the definitions in a row that is a definition list without a title
abbrev pub definitions_of_row : Row → Rows → Rows → Option Definitions
definitions_of_row row inner next = Some (record { «end» = end_of_row row.what 0; items = gapped row.gap inner; beside = next; apart = false })

-- the same after link reference definitions, which are then beside them
abbrev pub apart_after : Row → Rows → Definitions → Definitions
apart_after row inner ds = record { «end» = ds.«end»; items = ds.items; beside = OneOf row inner ds.beside; apart = true }

-- a row is a definition list without a title; the next definition: it is only link reference definitions
abbrev pub is_untitled : What → Bool
is_untitled (ADefinitionList Untitled e) = true
is_untitled _ = false

abbrev pub is_run_row : What → Bool
is_run_row (ALeaf block) = is_run block.kind
is_run_row _ = false

abbrev pub definitions_at : Row → Rows → Rows → Option Definitions → Option Definitions
definitions_at row inner next further = if is_untitled row.what then definitions_of_row row inner next
    else (if is_run_row row.what then option_map (apart_after row inner) further else None)

unfoldable pub definitions_first : Rows → Option Definitions
definitions_first End = None
definitions_first (OneOf row inner next) = definitions_at row inner next (definitions_first next)

-- the definition list of these definitions, with a paragraph as its title
abbrev pub titled : LeafBlock → Bool → Definitions → Rows
titled block gap ds =
    OneOf (record { what = ADefinitionList (if ds.apart then Apart else WithTitle) ds.«end»; line = block.line; start = block.start; gap = gap })
    (OneOf (record { what = ATitle block; line = block.line; start = block.start; gap = false }) End ds.items) ds.beside

-- A paragraph before rows is the title of the definitions at their start; link reference definitions between them then
-- follow the list. Any other leaf is a row itself (this project).
abbrev pub leaf_row : LeafBlock → Bool → Rows → Rows
leaf_row block gap next =
    option_map_or (titled block gap) (if begins_paragraph block.items then definitions_first next else None) (OneOf (row_of_leaf block gap) End next)

-- A block has a gap before it if a counting blank line is directly before it (CommonMark 5.3); a paragraph directly
-- after a definition has none (this project).
abbrev pub gap_before : Before → LeafBlock → Bool
gap_before before block = before.counted && not (begins_paragraph block.items && is_after_definition before.last)

-- The rows of blocks, in a block quote or not, given what precedes them, in a container that ends at an offset.
unfoldable pub rows_of : Bool → Before → ℕ → Skeleton → Rows
rows_of quoted before last Nil = End
rows_of quoted before last (Then BlankLine next) = rows_of quoted (after_blank quoted before) last next
rows_of quoted before last (Then (Block block) next) = leaf_row block (gap_before before block) (rows_of quoted (after_block before block) last next)
rows_of quoted before last (Node head e kids next) =
    let quote : Bool = is_quote (opened head.opener) in
    container_row last head.opener (row_of head e before.counted) (rows_of quote nothing e kids)
    (rows_of quoted (after_container (opened head.opener) (before_end quote nothing kids)) last next)
