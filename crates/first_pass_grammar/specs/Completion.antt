-- What the nodes of an unfinished tree can still become.
use Rattle.std.specs.Prelude.{◌≡◌, ℕ, zero, suc, ◌<◌, ◌==◌, ◌||◌, not, Bool, true, false, List, [], ◌∷◌, ◌++◌, length, map, drop, Option, Some, None}
use Rattle.std.specs.Prelude.{if◌then◌else◌}
use Rattle.first_pass_items.specs.declared.item.Item.{Item}
use Rattle.first_pass_items.specs.declared.item.ItemBody.{ItemBody}
use Rattle.first_pass_items.specs.declared.item.ItemBody.TheVariants.{List as ListBody, DefinitionList, DefinitionListTitle, Paragraph as ParagraphBody}
use Rattle.first_pass_tree.specs.Forest.{modify, map_from, deeper, shallower}
use Rattle.first_pass_tree.specs.Tight.{tightened}
use Rattle.first_pass_lines.specs.Places.{Place, lines_at}
use Rattle.first_pass_grammar.specs.declared.kind.Container.{Container}
use Rattle.first_pass_grammar.specs.declared.kind.Container.TheVariants.{BlockQuote, ListItem, FootnoteDefinition, Definition}
use Rattle.first_pass_grammar.specs.Leaves.{Document, document}
use Rattle.first_pass_grammar.specs.Names.{Names, Extends}
use Rattle.first_pass_grammar.specs.Blocks.{Skeleton}
use Rattle.first_pass_grammar.specs.Skeleton.{Continues, level, Remaining, Lines, onward, only_blanks, end_before, IsSequence}
use Rattle.first_pass_grammar.specs.Before.{Before, Last, LastOther, LastItem, LastDefinition, LastParagraph, after_container, before_end}
use Rattle.first_pass_grammar.specs.Containers.{is_quote}
use Rattle.first_pass_grammar.specs.Rows.{Joins, ItemsOf, DefinitionsTo, Definitions, definitions_first, Rows, any_gap, is_loose, list_until, items_after}
use Rattle.first_pass_grammar.specs.Rows.{list_after, rows_of}
use Rattle.first_pass_grammar.specs.Derivation.{Tables, Derives, with_all_of, list_flags, items_of}

-- the lines of a text from an offset that is the start of a line
abbrev pub lines_from : List ℕ → ℕ → List Place
lines_from text start = lines_at start (drop start text)

-- the nodes once the node at an index has its end
unfoldable pub ended : List (ℕ × Item) → ℕ → ℕ → List (ℕ × Item)
ended nodes index e = modify nodes index (λ x. record x { «end» = e })

-- the body of a list with its flags, loose or tight
abbrev pub flagged : Bool → ItemBody → ItemBody
flagged loose (ListBody flags byte number) = ListBody (list_flags (not loose)) byte number
flagged loose (DefinitionList flags) = DefinitionList (list_flags (not loose))
flagged loose body = body

-- The nodes once the paragraph at an index is the title of a definition list. The list begins where the paragraph was,
-- and what was below the paragraph is below the title.
unfoldable pub with_title : List (ℕ × Item) → ℕ → List (ℕ × Item)
with_title [] index = []
with_title (n ∷ nodes) zero =
    (n.0, record n.1 { body = DefinitionList (list_flags true) }) ∷ (suc n.0, record n.1 { body = DefinitionListTitle }) ∷ map deeper nodes
with_title (n ∷ nodes) (suc index) = n ∷ with_title nodes index

-- the nodes once the possible title at an index, the last child of a definition list, is a title (this project)
unfoldable pub title_taken : List (ℕ × Item) → ℕ → List (ℕ × Item)
title_taken nodes index = modify nodes index (λ x. record x { body = DefinitionListTitle })

-- the nodes once that possible title is a paragraph after the list (this project)
unfoldable pub title_left : List (ℕ × Item) → ℕ → List (ℕ × Item)
title_left nodes index = map_from shallower index (modify nodes index (λ x. record x { body = ParagraphBody }))

-- The nodes once the list at an index is closed; `depth` is that of the blocks in its items. The list has its end and
-- is loose or tight. In a tight list the paragraphs are tightened.
unfoldable pub list_closed : List (ℕ × Item) → ℕ → ℕ → Bool → ℕ → List (ℕ × Item)
list_closed nodes index depth loose e =
    modify (if loose then nodes else map_from (tightened depth) index nodes) index (λ x. record { start = x.start; «end» = e; body = flagged loose x.body })

-- The part of the innermost node's last child that rules depend on.
-- Another child, or none.
-- A paragraph: its index.
-- A definition: its end, and whether it takes only blank lines.
-- A possible title: the end of the definition before it, and its own index.
pub data Closed : Type 0 where
  OtherClosed : Closed
  ParagraphAt : ℕ → Closed
  DefinitionClosed : ℕ → Bool → Closed
  TitleAt : ℕ → ℕ → Closed

-- A list that may continue, if there is one.
-- No list: the last child.
-- A list: its index, what continues it, and whether it is loose so far.
-- A definition list with a possible title after its last definition: the list's index, the title's index, the end of
-- that definition, and whether the list is loose so far.
pub data Pending : Type 0 where
  NoList : Closed → Pending
  OneList : ℕ → Joins → Bool → Pending
  OneTitle : ℕ → ℕ → ℕ → Bool → Pending

-- the state of an unfinished tree: its nodes, a list that may continue, what precedes the next block, and what is
-- defined
pub record Unfinished : Type 0 where
  pub nodes : List (ℕ × Item)
  pub list : Pending
  pub before : Before
  pub defined : Tables

-- the further part of a container: its further blocks, and its end
pub record Further : Type 0 where
  pub blocks : Skeleton
  pub «end» : ℕ

-- The further parts of the containers of a path, innermost first, and at last that of the text itself; each is a
-- sequence of the grammar. `before` is what precedes the first block of the innermost one.
unfoldable pub AreFurther : Document → List Container → Before → Continues → List Place → List Further → Type 0
AreFurther d [] before from lines (f ∷ []) = IsSequence d f.blocks (level [] before) from lines (Lines []) × (f.«end» ≡ length d.text)
AreFurther d (c ∷ path) before from lines (f ∷ more) =
    (left : Remaining) × IsSequence d f.blocks (level (c ∷ path) before) from lines left × (f.«end» ≡ end_before (length d.text) path from left)
    × AreFurther d path (after_container c (before_end (is_quote c) before f.blocks)) (onward left).0 (onward left).1 more
AreFurther d _ before from lines _ = ⊥

-- the rows of the remaining blocks of a container, a block quote or not, in this state
abbrev pub rows_on : Bool → Unfinished → Further → Rows
rows_on quoted w f = rows_of quoted w.before f.«end» f.blocks

-- the definitions that the last child takes in as its own: those at the start of the rows, after a paragraph
abbrev pub taken_in : Closed → Rows → Option Definitions
taken_in OtherClosed rows = None
taken_in (ParagraphAt index) rows = definitions_first rows
taken_in (DefinitionClosed e blanks) rows = None
taken_in (TitleAt e index) rows = None

-- definitions directly after their title, with no link reference definitions between
abbrev pub not_apart : Option Definitions → Option Definitions
not_apart None = None
not_apart (Some ds) = if ds.apart then None else Some ds

-- the rows beside the definitions that are taken in, or all rows if there are none
abbrev pub beside_or : Option Definitions → Rows → Rows
beside_or None rows = rows
beside_or (Some ds) rows = ds.beside

-- the rows that do not belong to the list that may continue
abbrev pub rows_beyond : Pending → Rows → Rows
rows_beyond (NoList closed) rows = beside_or (taken_in closed rows) rows
rows_beyond (OneList index joins loose) rows = list_after joins rows
rows_beyond (OneTitle index title e loose) rows = beside_or (definitions_first rows) rows

-- the nodes once the list at an index is closed with these definitions as its further children; the rows beside them
-- follow it at this depth
abbrev pub closed_with : ℕ → List (ℕ × Item) → ℕ → Bool → Definitions → List (ℕ × Item)
closed_with depth nodes index loose ds =
    list_closed nodes index (suc (suc depth)) loose ds.«end» ++ (items_of (suc depth) (not loose) ds.items ++ items_of depth false ds.beside)

-- the nodes, followed by these rows; the paragraph at an index becomes the title of the definitions at the start of the
-- rows, if there are any
abbrev pub after_paragraph : ℕ → List (ℕ × Item) → ℕ → Option Definitions → Rows → List (ℕ × Item)
after_paragraph depth nodes index None rows = nodes ++ items_of depth false rows
after_paragraph depth nodes index (Some ds) rows = closed_with depth (with_title nodes index) index (is_loose ds.items) ds

abbrev pub after_closed : ℕ → List (ℕ × Item) → Closed → Rows → List (ℕ × Item)
after_closed depth nodes OtherClosed rows = nodes ++ items_of depth false rows
after_closed depth nodes (ParagraphAt index) rows = after_paragraph depth nodes index (definitions_first rows) rows
after_closed depth nodes (DefinitionClosed e blanks) rows = nodes ++ items_of depth false rows
after_closed depth nodes (TitleAt e index) rows = nodes ++ items_of depth false rows

-- The same for the possible title at the second index, in the definition list at the first. It becomes the title of the
-- definitions at the start of the rows, unless link reference definitions come between. Otherwise it becomes a
-- paragraph after that list, which ends with its last definition (this project).
abbrev pub after_title : ℕ → List (ℕ × Item) → ℕ × ℕ × ℕ → Bool → Option Definitions → Rows → List (ℕ × Item)
after_title depth nodes (index, title, e) loose (Some ds) rows = closed_with depth (title_taken nodes title) index (loose || is_loose ds.items) ds
after_title depth nodes (index, title, e) loose None rows =
    after_paragraph depth (title_left (list_closed nodes index (suc (suc depth)) loose e) title) title (definitions_first rows) rows

-- The nodes, followed by these rows at this depth, in a container that ends at an offset. A list that may continue
-- takes the rows that continue it, and is loose if it was loose or if they make it loose. The other rows follow it
-- (CommonMark 5.3, and this project).
unfoldable pub rendered : ℕ → ℕ → List (ℕ × Item) → Pending → Rows → List (ℕ × Item)
rendered depth last nodes (NoList closed) rows = after_closed depth nodes closed rows
rendered depth last nodes (OneList index joins loose) rows =
    let now : Bool = loose || is_loose (items_after joins rows) in
    list_closed nodes index (suc (suc depth)) now (list_until joins last rows)
    ++ (items_of (suc depth) (not now) (items_after joins rows) ++ items_of depth false (list_after joins rows))
rendered depth last nodes (OneTitle index title e loose) rows =
    after_title depth nodes (index, title, e) loose (not_apart (definitions_first rows)) rows

-- an open node: a container; a list, with its byte and whether it is loose so far; or a definition list, with whether
-- it is loose so far
pub data Frame : Type 0 where
  InContainer : Container → Frame
  InList : ℕ → Bool → Frame
  InDefinitions : Bool → Frame

-- only the containers among open nodes, innermost first
abbrev pub containers_of : List Frame → List Container
containers_of [] = []
containers_of (InContainer c ∷ frames) = c ∷ containers_of frames
containers_of (InList byte loose ∷ frames) = containers_of frames
containers_of (InDefinitions loose ∷ frames) = containers_of frames

-- A blank line before a block directly in an item makes the item's list loose.
abbrev pub loosened : Bool → List Frame → List Frame
loosened gap [] = []
loosened gap (InContainer c ∷ frames) = InContainer c ∷ frames
loosened gap (InList byte loose ∷ frames) = InList byte (loose || gap) ∷ frames
loosened gap (InDefinitions loose ∷ frames) = InDefinitions (loose || gap) ∷ frames

-- the last child after a container that ends at an offset is closed
abbrev pub closed_as : Container → ℕ → Closed
closed_as (BlockQuote kind) e = OtherClosed
closed_as (ListItem columns) e = OtherClosed
closed_as (FootnoteDefinition columns) e = OtherClosed
closed_as (Definition columns) e = DefinitionClosed e (columns == 0)

-- a definition list that is open at an index, given its last child
abbrev pub definitions_open : ℕ → Bool → Pending → Pending
definitions_open index loose (NoList OtherClosed) = NoList OtherClosed
definitions_open index loose (NoList (ParagraphAt at)) = NoList OtherClosed
definitions_open index loose (NoList (DefinitionClosed e blanks)) = OneList index (DefinitionsTo e) loose
definitions_open index loose (NoList (TitleAt e at)) = OneTitle index at e loose
definitions_open index loose (OneList at joins l) = NoList OtherClosed
definitions_open index loose (OneTitle at title e l) = NoList OtherClosed

-- the state once a container, whose node is at an index, is closed, given the rows of its remaining blocks
abbrev pub container_closed : Container → ℕ → ℕ → Unfinished → Further → Rows → Unfinished
container_closed c depth index w f rows = record {
  nodes = ended (rendered depth f.«end» w.nodes w.list rows) index f.«end»;
  list = NoList (closed_as c f.«end»);
  before = after_container c (before_end (is_quote c) w.before f.blocks);
  defined = with_all_of w.defined f.blocks;
}

-- The state becomes this forest and these tables once all open nodes are closed. The frames and the indices list the
-- open nodes, innermost first. Each container ends after its remaining blocks, from the innermost on; a list ends with
-- what continues it.
unfoldable pub Becomes : List Frame → List ℕ → Unfinished → List Further → List (ℕ × Item) → Tables → Type 0
Becomes [] [] w (f ∷ []) forest tables = (forest ≡ rendered 1 f.«end» w.nodes w.list (rows_on false w f)) × (tables ≡ with_all_of w.defined f.blocks)
Becomes (InList byte loose ∷ frames) (index ∷ indices) w further forest tables =
    Becomes frames indices (record { nodes = w.nodes; list = OneList index (ItemsOf byte) loose; before = w.before; defined = w.defined }) further forest tables
Becomes (InDefinitions loose ∷ frames) (index ∷ indices) w further forest tables =
    Becomes frames indices
    (record { nodes = w.nodes; list = definitions_open index loose w.list; before = w.before; defined = w.defined }) further forest tables
Becomes (InContainer c ∷ frames) (index ∷ indices) w (f ∷ further) forest tables =
    let rows : Rows = rows_on (is_quote c) w f in
    Becomes (loosened (any_gap (rows_beyond w.list rows)) frames) indices
    (container_closed c (suc (length (index ∷ indices))) index w f rows) further forest tables
Becomes _ _ w further forest tables = ⊥

-- each index is before the one inside it, and the innermost is before `n`
abbrev pub AreBelow : ℕ → List ℕ → Type 0
AreBelow n [] = Unit {0}
AreBelow n (index ∷ indices) = (index < n) × AreBelow index indices

-- the innermost open node is not a list
abbrev pub IsPlain : List Frame → Type 0
IsPlain [] = Unit {0}
IsPlain (InContainer c ∷ frames) = Unit {0}
IsPlain (InList byte loose ∷ frames) = ⊥
IsPlain (InDefinitions loose ∷ frames) = ⊥

abbrev pub last_plain : Closed → Last
last_plain OtherClosed = LastOther
last_plain (ParagraphAt index) = LastParagraph false
last_plain (DefinitionClosed e blanks) = LastOther
last_plain (TitleAt e index) = LastOther

abbrev pub last_defined : Closed → Last
last_defined OtherClosed = LastOther
last_defined (ParagraphAt index) = LastOther
last_defined (DefinitionClosed e blanks) = LastDefinition blanks
last_defined (TitleAt e index) = LastParagraph true

-- the innermost of these open nodes may have this container as its child: a list an item, a definition list a
-- definition, any other node another container
abbrev pub StandsIn : Container → List Frame → Type 0
StandsIn (ListItem columns) (InList byte loose ∷ frames) = Unit {0}
StandsIn (ListItem columns) _ = ⊥
StandsIn (Definition columns) (InDefinitions loose ∷ frames) = Unit {0}
StandsIn (Definition columns) _ = ⊥
StandsIn c frames = IsPlain frames

-- The last child of the innermost open node: an item in a list; a definition or a possible title in a definition list;
-- otherwise a paragraph or another block.
abbrev pub last_of : List Frame → Closed → Last
last_of [] closed = last_plain closed
last_of (InContainer c ∷ frames) closed = last_plain closed
last_of (InList byte loose ∷ frames) closed = LastItem
last_of (InDefinitions loose ∷ frames) closed = last_defined closed

-- lists are directly in containers or at the top, items in lists, definitions in definition lists, and other
-- containers in neither kind of list
abbrev pub IsShaped : List Frame → Type 0
IsShaped [] = Unit {0}
IsShaped (InContainer c ∷ frames) = StandsIn c frames × IsShaped frames
IsShaped (InList byte loose ∷ frames) = IsPlain frames × IsShaped frames
IsShaped (InDefinitions loose ∷ frames) = IsPlain frames × IsShaped frames

-- The open nodes are at these indices, as the frames list them, and every completion of the state from here on is
-- derived by the text.
pub record Completes (d : Document) (frames : List Frame) (indices : List ℕ) (w : Unfinished) (from : Continues) (lines : List Place) : Type 0 where
  pub below : AreBelow (length w.nodes) indices
  pub shape : IsShaped frames
  pub whole : (further : List Further) (forest : List (ℕ × Item)) (tables : Tables)
      → AreFurther d (containers_of frames) w.before from lines further → Becomes frames indices w further forest tables → Derives d forest tables

-- Blocks can continue in these containers. The next line may have to be blank only if there is a container: one that
-- takes only blank lines (CommonMark 5.2, and this project).
abbrev pub CanGoOn : List Container → Continues → Type 0
CanGoOn [] from = only_blanks from ≡ None
CanGoOn (c ∷ path) from = Unit {0}

-- A completion of the open nodes from here on: names that extend the present ones, the further parts of the
-- containers, and the resulting forest and tables.
pub record Completion (d : Document) (frames : List Frame) (indices : List ℕ) (w : Unfinished) (from : Continues) (lines : List Place) : Type 0 where
  pub names : Names
  pub extends : Extends names d.names
  pub further : List Further
  pub forest : List (ℕ × Item)
  pub tables : Tables
  pub taken : AreFurther (document d.text d.options names) (containers_of frames) w.before from lines further
  pub becomes : Becomes frames indices w further forest tables
