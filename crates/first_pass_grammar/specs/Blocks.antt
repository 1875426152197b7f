-- Blocks, and the containers around them (CommonMark 3.1, 5).
use Rattle.std.specs.Prelude.{ℕ, Bool, false, Option, List, [], ◌∷◌}
use Rattle.first_pass_items.specs.declared.item.Item.{Item}
use Rattle.first_pass_items.specs.declared.item.CowIndex.{CowIndex}
use Rattle.first_pass_items.specs.declared.item.BlockQuoteKind.{BlockQuoteKind}
use Rattle.first_pass_lines.specs.Places.{Place, offset}
use Rattle.first_pass_grammar.specs.declared.kind.Container.{Container}
use Rattle.first_pass_grammar.specs.declared.kind.Container.TheVariants.{BlockQuote, ListItem, FootnoteDefinition, Definition}
use Rattle.first_pass_grammar.specs.Kinds.{Kind, LinkDefinitions, Paragraph, unindented}
use Rattle.first_pass_grammar.specs.LinkTables.{LinkEntry}

-- A leaf block (CommonMark 4): its kind, the start of its line, its own start, its items, whether it ends with counting
-- blank lines, and its link reference definitions. Its own start is at its first byte other than a space or tab. The
-- depths of its items are relative to it.
pub record LeafBlock : Type 0 where
  pub kind : Kind
  pub line : ℕ
  pub start : ℕ
  pub items : List (ℕ × Item)
  pub gap : Bool
  pub definitions : List LinkEntry

-- a blank line, or a leaf block
pub data Leaf : Type 0 where
  BlankLine : Leaf
  Block : LeafBlock → Leaf

-- the leaf block of a kind that begins at a place, with these items
abbrev pub block_at : Kind → Place → List (ℕ × Item) → Bool → LeafBlock
block_at kind p items gap = record { kind = kind; line = p.line; start = offset (unindented p); items = items; gap = gap; definitions = [] }

abbrev pub leaf_block : Kind → Place → List (ℕ × Item) → Bool → Leaf
leaf_block kind p items gap = Block (block_at kind p items gap)

-- What opens a container.
-- A block quote: its marker, with its kind (CommonMark 5.1).
-- A list item: its marker, with its byte, its number and the item's indent (CommonMark 5.2).
-- A footnote definition: its head, with the columns that continue it, the index of its label, and the label as it is
-- read (this project).
-- A definition: its `:`, with its indent, which is 0 exactly if the definition takes only blank lines (this project).
pub data Opener : Type 0 where
  QuoteMarker : Option BlockQuoteKind → Opener
  ItemMarker : ℕ → ℕ → ℕ → Opener
  FootnoteMarker : ℕ → CowIndex → List ℕ → Opener
  DefinitionMarker : ℕ → Opener

-- the label that an opener defines, if it opens a footnote definition (this project)
abbrev pub label_of : Opener → List (List ℕ)
label_of (QuoteMarker kind) = []
label_of (ItemMarker byte number indent) = []
label_of (FootnoteMarker columns index label) = label ∷ []
label_of (DefinitionMarker columns) = []

-- how a container begins: its opener, the start of its line, and its own start
pub record Head : Type 0 where
  pub opener : Opener
  pub line : ℕ
  pub start : ℕ

-- the container that an opener opens
abbrev pub opened : Opener → Container
opened (QuoteMarker kind) = BlockQuote kind
opened (ItemMarker byte number indent) = ListItem indent
opened (FootnoteMarker columns index label) = FootnoteDefinition columns
opened (DefinitionMarker columns) = Definition columns

-- a run of link reference definitions with no text after them; the last one begins at this place
abbrev pub run_block : Place → List LinkEntry → LeafBlock
run_block p definitions = record { kind = LinkDefinitions; line = p.line; start = offset p; items = []; gap = false; definitions = definitions }

-- the text that begins at a place, after link reference definitions
abbrev pub flowing_block : Place → List LinkEntry → List (ℕ × Item) → LeafBlock
flowing_block p definitions items = record { kind = Paragraph; line = p.line; start = offset p; items = items; gap = false; definitions = definitions }

-- The blocks of a container in order, each with the blocks in it.
pub data Skeleton : Type 0 where
  Nil : Skeleton
  Then : Leaf → Skeleton → Skeleton
  -- a container: its head, its end and the blocks in it; then the blocks after it
  Node : Head → ℕ → Skeleton → Skeleton → Skeleton
