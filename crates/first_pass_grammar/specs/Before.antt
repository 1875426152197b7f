-- What precedes a place in a sequence of blocks, as far as rules depend on it (this project).
use Rattle.std.specs.Prelude.{ℕ, ◌==◌, Bool, true, false, not, ◌||◌, List, [], ◌∷◌, if◌then◌else◌}
use Rattle.first_pass_items.specs.declared.item.Item.{Item}
use Rattle.first_pass_items.specs.declared.item.ItemBody.{ItemBody}
use Rattle.first_pass_items.specs.declared.item.ItemBody.TheVariants.{Paragraph as ParagraphBody}
use Rattle.first_pass_grammar.specs.declared.kind.Container.{Container}
use Rattle.first_pass_grammar.specs.declared.kind.Container.TheVariants.{BlockQuote, ListItem, FootnoteDefinition, Definition}
use Rattle.first_pass_grammar.specs.Blocks.{LeafBlock, Leaf, BlankLine, Block, opened, Skeleton, Nil, Then, Node}
use Rattle.first_pass_grammar.specs.Containers.{is_quote}
use Rattle.first_pass_grammar.specs.Kinds.{Kind, LinkDefinitions}

-- The last block, apart from blank lines. After link reference definitions, a paragraph before them is still the last
-- block.
-- Another block, or none.
-- A paragraph: whether it is directly after a definition, and so may be the next title of its list.
-- An item, whose list may continue.
-- A definition, whose list may continue: whether it takes only blank lines.
pub data Last : Type 0 where
  LastOther : Last
  LastParagraph : Bool → Last
  LastItem : Last
  LastDefinition : Bool → Last

-- the last block, and whether the blank lines directly before a place include a counting one
pub record Before : Type 0 where
  pub last : Last
  pub counted : Bool

-- before the first block of a container or of a text
abbrev pub nothing : Before
nothing = record { last = LastOther; counted = false }

-- a list is open: it may continue, or the paragraph after it may become its next title
abbrev pub list_is_open : Last → Bool
list_is_open LastOther = false
list_is_open (LastParagraph title) = title
list_is_open LastItem = true
list_is_open (LastDefinition blanks) = true

-- a `:` may begin a definition: after a paragraph, or after a definition whose indent is not 0; one with the indent 0
-- takes only blank lines
abbrev pub definition_may_follow : Last → Bool
definition_may_follow LastOther = false
definition_may_follow (LastParagraph title) = true
definition_may_follow LastItem = false
definition_may_follow (LastDefinition blanks) = not blanks

-- the last block is a definition
abbrev pub is_after_definition : Last → Bool
is_after_definition LastOther = false
is_after_definition (LastParagraph title) = false
is_after_definition LastItem = false
is_after_definition (LastDefinition blanks) = true

-- the last block after a container ends
abbrev pub last_container : Container → Last
last_container (BlockQuote kind) = LastOther
last_container (ListItem columns) = LastItem
last_container (FootnoteDefinition columns) = LastOther
last_container (Definition columns) = LastDefinition (columns == 0)

abbrev pub is_paragraph_body : ItemBody → Bool
is_paragraph_body ParagraphBody = true
is_paragraph_body _ = false

-- the items of a text are those of a paragraph, not of a heading or a table, and not only a task list item marker
abbrev pub begins_paragraph : List (ℕ × Item) → Bool
begins_paragraph [] = false
begins_paragraph (x ∷ items) = is_paragraph_body x.1.body

abbrev pub is_run : Kind → Bool
is_run LinkDefinitions = true
is_run _ = false

-- after link reference definitions, a paragraph before them is still the last block, but no list is open
abbrev pub last_after_run : Last → Last
last_after_run LastOther = LastOther
last_after_run (LastParagraph title) = LastParagraph false
last_after_run LastItem = LastOther
last_after_run (LastDefinition blanks) = LastOther

-- the last block after a leaf block
abbrev pub last_block : LeafBlock → Last → Last
last_block block last =
    if begins_paragraph block.items then LastParagraph (is_after_definition last) else (if is_run block.kind then last_after_run last else LastOther)

-- A blank line counts unless a block quote is innermost. If a list is open in the quote, that list is innermost (this
-- project).
abbrev pub after_blank : Bool → Before → Before
after_blank quoted before = record { last = before.last; counted = before.counted || (not quoted || list_is_open before.last) }

-- after a leaf block: blank lines at its end count in every container
abbrev pub after_block : Before → LeafBlock → Before
after_block before block = record { last = last_block block before.last; counted = block.gap }

abbrev pub after_leaf : Bool → Before → Leaf → Before
after_leaf quoted before BlankLine = after_blank quoted before
after_leaf quoted before (Block block) = after_block before block

-- after a container, given what precedes its end: blank lines at its end are directly before the next block too
abbrev pub after_container : Container → Before → Before
after_container c end = record { last = last_container c; counted = end.counted }

-- what precedes the end of these blocks, in a block quote or not, given what precedes the first of them
unfoldable pub before_end : Bool → Before → Skeleton → Before
before_end quoted before Nil = before
before_end quoted before (Then leaf next) = before_end quoted (after_leaf quoted before leaf) next
before_end quoted before (Node head e kids next) =
    before_end quoted (after_container (opened head.opener) (before_end (is_quote (opened head.opener)) nothing kids)) next
