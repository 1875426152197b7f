-- Sequences of blocks, and the blocks in them (CommonMark 3.1).
use Rattle.std.specs.Prelude.{◌≡◌, ℕ, ◌&&◌, not, Bool, false, Option, Some, None, MatchOption, List, [], ◌∷◌, length, drop, if◌then◌else◌}
use Rattle.first_pass_items.specs.declared.item.Item.{Item}
use Rattle.first_pass_items.specs.declared.item.HeadingIndex.{HeadingIndex}
use Rattle.first_pass_items.specs.declared.option_set.Options.{Options}
use Rattle.first_pass_items.specs.declared.item.CowIndex.{CowIndex}
use Rattle.first_pass_items.specs.OptionWords.{has, gfm_footnotes, definition_list}
use Rattle.first_pass_lines.specs.Lines.{level_number}
use Rattle.first_pass_lines.specs.Rest.{Rest, indent}
use Rattle.first_pass_lines.specs.Places.{Place, offset, start_of, moved_columns}
use Rattle.first_pass_grammar.specs.declared.kind.Container.{Container}
use Rattle.first_pass_grammar.specs.Blocks.{Leaf, BlankLine, Block, leaf_block, Opener, QuoteMarker, ItemMarker, FootnoteMarker, DefinitionMarker, Head}
use Rattle.first_pass_grammar.specs.Blocks.{opened, run_block, flowing_block, Skeleton, Nil, Then, Node}
use Rattle.first_pass_grammar.specs.Openers.{AfterMarker, OnLine, TaskText, LineEnds, OnlyTag, Start, start_at}
use Rattle.first_pass_grammar.specs.Before.{Before, nothing, list_is_open, definition_may_follow, after_leaf, after_container, before_end}
use Rattle.first_pass_grammar.specs.Containers.{Context, context, at_rest, after, front, taken, next_goes_on, is_quote, in_quote, in_old_footnote}
use Rattle.first_pass_grammar.specs.Containers.{footnote_columns}
use Rattle.first_pass_grammar.specs.Footnotes.{footnote_head_at, label_bytes, NamesLabel, place_past, past_head, ends_footnote}
use Rattle.first_pass_grammar.specs.Kinds.{Kind, Blank, IndentedCode, Metadata, HtmlToEnd, HtmlToBlank, ThematicBreak, AtxHeading, FencedCode, LinkDefinitions}
use Rattle.first_pass_grammar.specs.Kinds.{Paragraph, all_taken, unindented, is_blank_rest, IsKind, is_ordinary_after_tag}
use Rattle.first_pass_html.specs.Ends.{BlockEnd}
use Rattle.first_pass_html.specs.Starts.{html_end}
use Rattle.first_pass_grammar.specs.CodeBlocks.{code_lines, last_is_blank, IsIndentedCode, metadata_lines, IsMetadata, fenced_lines, IsFencedCode}
use Rattle.first_pass_grammar.specs.Extents.{Extent}
use Rattle.first_pass_grammar.specs.LinkTables.{LinkEntry}
use Rattle.first_pass_grammar.specs.LinkRuns.{kind_in, lines_beyond, Beyond, Ended, FlowsOn, IsRun}
use Rattle.first_pass_grammar.specs.HtmlBlocks.{until_end, until_blank, IsHtml}
use Rattle.first_pass_grammar.specs.Leaves.{Document, around, IsHeading, heading_text_at, rule_block, heading_block}
use Rattle.first_pass_grammar.specs.Tables.{Taken}
use Rattle.first_pass_grammar.specs.Texts.{IsText}

-- What may begin at a place inside a line.
-- Any block.
-- Only a leaf block, after a block quote's tag (this project).
-- The text of a task, after its task list item marker (GFM 5.3).
-- Only that marker, with nothing after it on its line; in an item that takes only blank lines, with the offset after
-- that line (GFM 5.3, and this project).
pub data Allowed : Type 0 where
  Anything : Allowed
  OnlyALeaf : Allowed
  TextOf : Item → Allowed
  OnlyMark : Item → Option ℕ → Allowed

-- Where blocks continue.
-- At the next line.
-- At the next line if it is blank, in an item that takes only blank lines: the offset after the line of the item's
-- marker.
-- At a place inside a line: the place, and what may begin there.
pub data Continues : Type 0 where
  Line : Continues
  Blanks : ℕ → Continues
  AtPlace : Place → Allowed → Continues

abbrev pub Inside : Place → Continues
Inside p = AtPlace p Anything

-- at the line after an item's marker; with an offset, in an item that takes only blank lines
abbrev pub after_marker : Option ℕ → Continues
after_marker None = Line
after_marker (Some e) = Blanks e

-- What begins at a place.
-- A leaf: where the blocks after it continue, and the lines after that.
-- A container: its head, where the blocks in it continue, and the lines after that.
pub data Opening : Type 0 where
  OpensLeaf : Leaf → Continues → List Place → Opening
  OpensNode : Head → Continues → List Place → Opening

-- The text that begins at a place, with or without a task list item marker before it: a paragraph, a setext heading or
-- a table (CommonMark 4.8, 4.3, GFM 4.10, 5.3).
unfoldable pub OpensText : Document → List Container → Place → List Place → Option Item → Opening → Type 0
OpensText d path p lines marker opening =
    (t : Taken) × IsText d path (unindented p) marker lines t × (opening ≡ OpensLeaf (leaf_block Paragraph p t.items false) Line t.left)

-- the leaf block of a kind with these raw lines and with items that satisfy `Are`
abbrev pub OpensExtent : Kind → Place → Extent → (List (ℕ × Item) → Type 0) → Opening → Type 0
OpensExtent kind p e Are opening = (items : List (ℕ × Item)) × Are items × (opening ≡ OpensLeaf (leaf_block kind p items false) Line e.left)

-- Link reference definitions are a block with no items, or they are followed by a text, which is the block (CommonMark
-- 4.7, 4.8, GFM 4.10).
abbrev pub OpensBeyond : Document → List Container → List LinkEntry → Beyond → Opening → Type 0
OpensBeyond d path definitions (Ended p left) opening = opening ≡ OpensLeaf (Block (run_block p definitions)) Line left
OpensBeyond d path definitions (FlowsOn p lines) opening =
    (t : Taken) × IsText d path p None lines t × (opening ≡ OpensLeaf (Block (flowing_block p definitions t.items)) Line t.left)

unfoldable pub OpensRun : Document → List Container → Place → List Place → Opening → Type 0
OpensRun d path p lines opening =
    (definitions : List LinkEntry) × (beyond : Beyond) × IsRun (around d path) (unindented p) lines definitions beyond
    × OpensBeyond d path definitions beyond opening

-- What a kind opens at a place, given the lines after it and the path of containers around it. The blank lines at the
-- end of indented code count (CommonMark 4.4, and this project).
unfoldable pub OpensAs : Document → List Container → Place → List Place → Kind → Opening → Type 0
OpensAs d path p lines Blank opening = opening ≡ OpensLeaf BlankLine Line lines
OpensAs d path p lines IndentedCode opening =
    (items : List (ℕ × Item)) × IsIndentedCode d (moved_columns 4 p) (code_lines path lines).0 items
    × (opening ≡ OpensLeaf (leaf_block IndentedCode p items (last_is_blank (code_lines path lines).0)) Line (code_lines path lines).1)
OpensAs d path p lines (Metadata byte) opening =
    let e = metadata_lines (length d.text) path byte lines in
    OpensExtent (Metadata byte) p e (IsMetadata d (offset (unindented p)) byte e.places e.«end») opening
OpensAs d path p lines HtmlToEnd opening =
    (until : BlockEnd) × (html_end (drop 1 (all_taken p.rest).left) ≡ Some until)
    × (
    let e = until_end (length d.text) path until (unindented p) lines in
    OpensExtent HtmlToEnd p e (IsHtml d (offset (unindented p)) (indent p.rest) e.places e.«end») opening)
OpensAs d path p lines HtmlToBlank opening =
    let e = until_blank (length d.text) path (unindented p) lines in
    OpensExtent HtmlToBlank p e (IsHtml d (offset (unindented p)) (indent p.rest) e.places e.«end») opening
OpensAs d path p lines (ThematicBreak size) opening =
    opening ≡ OpensLeaf (leaf_block (ThematicBreak size) p (rule_block (offset (unindented p)) size) false) Line lines
OpensAs d path p lines (AtxHeading level) opening =
    (index : Option HeadingIndex) × (chain : List Item) × (end_of_line : ℕ)
    × IsHeading d (heading_text_at d.text (offset (unindented p)) (level_number level)) index chain end_of_line
    × (opening ≡ OpensLeaf (leaf_block (AtxHeading level) p (heading_block (offset (unindented p)) end_of_line level index chain) false) Line lines)
OpensAs d path p lines (FencedCode count byte) opening =
    let e = fenced_lines (length d.text) path (indent p.rest) byte count lines in
    OpensExtent (FencedCode count byte) p e (IsFencedCode d (offset (unindented p)) count e.places e.«end») opening
OpensAs d path p lines LinkDefinitions opening = OpensRun d path p lines opening
OpensAs d path p lines Paragraph opening = OpensText d path p lines None opening

-- the leaf that begins at a place, by the kind of the place
abbrev pub OpensBlockAt : Document → List Container → Place → List Place → Opening → Type 0
OpensBlockAt d path p lines opening = (kind : Kind) × IsKind d.options p.rest kind × OpensAs d path p lines (kind_in (around d path) p kind) opening

-- the next line continues the path, and is blank after the prefixes of the path
abbrev pub is_blank_after : Option Rest → Bool
is_blank_after None = false
is_blank_after (Some r) = is_blank_rest r

abbrev pub next_is_blank : List Container → List Place → Bool
next_is_blank path [] = false
next_is_blank path (line ∷ lines) = is_blank_after (after path line.rest)

-- Where blocks continue if nothing follows a container's marker on its line, or only a task list item marker. An offset
-- is given in an item that takes only blank lines.
abbrev pub only_task : Option Item → Place → Option ℕ → Continues
only_task None p blanks = after_marker blanks
only_task (Some marker) p blanks = AtPlace p (OnlyMark marker blanks)

-- the opener of a container that takes only blank lines: the indent of an item or a definition is 0
abbrev pub without_indent : Opener → Opener
without_indent (QuoteMarker kind) = QuoteMarker kind
without_indent (ItemMarker byte number columns) = ItemMarker byte number 0
without_indent (FootnoteMarker columns index label) = FootnoteMarker columns index label
without_indent (DefinitionMarker columns) = DefinitionMarker 0

-- An item or a definition may begin with one blank line, that of its marker. If the next line is blank too, the
-- container takes only blank lines (CommonMark 5.2, and this project).
abbrev pub empty_opening : Document → List Container → Head → Place → List Place → Option Item → Opening
empty_opening d path head inside lines marker =
    if next_is_blank (opened head.opener ∷ path) lines
    then OpensNode (record head { opener = without_indent head.opener }) (only_task marker inside (Some (start_of (length d.text) lines))) lines
    else OpensNode head (only_task marker inside None) lines

-- Where blocks continue in a block quote after the line of its tag, and the lines after that; `c.path` begins with the
-- quote. The next line is read like any other, or it belongs to the quote and a leaf begins after its indentation
-- (this project).
abbrev pub after_tag : Context → List Place → Continues × List Place
after_tag c [] = (Line, [])
after_tag c (line ∷ lines) = if is_ordinary_after_tag c line.rest then (Line, line ∷ lines)
    else (AtPlace (unindented (at_rest line (front c.path line.rest))) OnlyALeaf, lines)

-- the container with this head, by what follows its marker; `inside` is the place after the marker
abbrev pub opening_by : Document → List Container → Head → Place → List Place → AfterMarker → Opening
opening_by d path head inside lines OnLine = OpensNode head (Inside inside) lines
opening_by d path head inside lines (TaskText marker) = OpensNode head (AtPlace inside (TextOf marker)) lines
opening_by d path head inside lines (LineEnds marker) = empty_opening d path head inside lines marker
opening_by d path head inside lines OnlyTag =
    let from : Continues × List Place = after_tag (around d (opened head.opener ∷ path)) lines in OpensNode head from.0 from.1

-- the container that begins at a place
abbrev pub opening_of : Document → List Container → Place → List Place → Start → Opening
opening_of d path p lines s = opening_by d path s.head (at_rest p s.rest) lines s.after

-- The footnote definition whose head, at a place, has this length. It starts at its `[`; its label may continue on
-- further lines (this project).
abbrev pub footnote_opening : Document → Place → List Place → ℕ → Opener → Opening
footnote_opening d p lines size opener =
    let q : Place = place_past size (unindented p) in
    let there : Place × List Place = past_head (gfm_footnotes d.options) q (lines_beyond (offset q) lines) in
    OpensNode (record { opener = opener; line = p.line; start = offset (unindented p) }) (Inside there.0) there.1

-- The footnote definition whose head has this length and this label, which its index names. The label is borrowed from
-- the text if it is written the same there (this project).
unfoldable pub OpensFootnote : Document → Place → List Place → ℕ × List ℕ → Opening → Type 0
OpensFootnote d p lines (size, label) opening =
    (index : CowIndex) × NamesLabel d.names index (label_bytes size (unindented p).rest.left) label
    × (opening ≡ footnote_opening d p lines size (FootnoteMarker (footnote_columns d.options) index label))

-- What begins at a place where no footnote definition does: a container if there is one, otherwise the leaf of the
-- place's kind.
unfoldable pub OpensBy : Document → List Container → Place → List Place → Option Start → Opening → Type 0
OpensBy d path p lines (Some s) opening = opening ≡ opening_of d path p lines s
OpensBy d path p lines None opening = OpensBlockAt d path p lines opening

-- the containers around a place, innermost first, and what precedes the place in the innermost one (this project)
pub record Level : Type 0 where
  pub path : List Container
  pub before : Before

abbrev pub level : List Container → Before → Level
level path before = record { path = path; before = before }

-- the level inside a container that begins at a level (this project)
abbrev pub level_in : Container → Level → Level
level_in c l = level (c ∷ l.path) nothing

-- the level after a leaf; the next definition is for a container with these blocks (this project)
abbrev pub level_after_leaf : Level → Leaf → Level
level_after_leaf l leaf = level l.path (after_leaf (in_quote l.path) l.before leaf)

abbrev pub level_after : Level → Head → Skeleton → Level
level_after l head kids = level l.path (after_container (opened head.opener) (before_end (is_quote (opened head.opener)) nothing kids))

-- a `:` may begin a definition at a level (this project)
abbrev pub may_define : Document → Level → Bool
may_define d l = has d.options definition_list && definition_may_follow l.before.last

-- What begins at a place: a footnote definition if there is one (this project), otherwise another container or a leaf.
abbrev pub Opens : Document → Level → Place → List Place → Opening → Type 0
Opens d l p lines opening =
    MatchOption (footnote_head_at (around d l.path) p) (OpensBy d l.path p lines (start_at d.options (may_define d l) p) opening)
    (λ head. OpensFootnote d p lines head opening)

-- What begins where blocks continue: any block; only a leaf, by the kind of the place; the text after a task list item
-- marker; or only the marker, in place of a text.
abbrev pub OpensIf : Document → Level → Allowed → Place → List Place → Opening → Type 0
OpensIf d l Anything p lines opening = Opens d l p lines opening
OpensIf d l OnlyALeaf p lines opening = OpensBlockAt d l.path p lines opening
OpensIf d l (TextOf marker) p lines opening = OpensText d l.path p lines (Some marker) opening
OpensIf d l (OnlyMark marker blanks) p lines opening = opening ≡ OpensLeaf (leaf_block Paragraph p ((0, marker) ∷ []) false) Line lines

abbrev pub OpensAt : Document → Level → Continues → Place → List Place → Opening → Type 0
OpensAt d l Line p lines opening = Opens d l p lines opening
OpensAt d l (Blanks e) p lines opening = Opens d l p lines opening
OpensAt d l (AtPlace q may) p lines opening = OpensIf d l may p lines opening

-- What a sequence of blocks leaves: the lines after it; or, if another footnote definition ends it, the place of that
-- one in its line, and the lines after that (this project).
pub data Remaining : Type 0 where
  Lines : List Place → Remaining
  InLine : Place → List Place → Remaining

-- The next block of a sequence begins at a place, with the lines after it; or the sequence ends, with what it leaves
-- (this project).
pub data NextBlock : Type 0 where
  Begins : Place → List Place → NextBlock
  Ends : Remaining → NextBlock

-- A footnote definition in the old form ends at the first line after a counting blank line, if it is innermost: no list
-- is open in it (this project).
abbrev pub ends_old_footnote : Level → Bool
ends_old_footnote l = in_old_footnote l.path && (l.before.counted && not (list_is_open l.before.last))

-- at a place in a line, after the prefixes of the path: a footnote definition ends there, or a block begins (this
-- project)
abbrev pub next_block_at : Context → Place → List Place → NextBlock
next_block_at around p lines = if ends_footnote around p then Ends (InLine p lines) else Begins p lines

-- the same at the next line: the place after the prefixes of the path, or `None` if the line does not continue the
-- path (CommonMark 5)
abbrev pub next_block_in : Options → Level → Option Place → List Place → NextBlock
next_block_in options l None lines = Ends (Lines lines)
next_block_in options l (Some q) lines = if ends_old_footnote l then Ends (Lines lines) else next_block_at (context options l.path) q (drop 1 lines)

-- the same in an item that takes only blank lines (CommonMark 5.2)
abbrev pub next_block_blank : Option Place → List Place → NextBlock
next_block_blank None lines = Ends (Lines lines)
next_block_blank (Some q) lines = if is_blank_rest q.rest then Begins q (drop 1 lines) else Ends (Lines lines)

-- Whether a sequence of blocks continues, and where: at a place inside a line, or at the next line after the prefixes
-- of the path. It ends with the text, or before a line that does not continue its path. In an item that takes only
-- blank lines, it also ends before a line that is not blank. In a footnote definition, it also ends where that
-- definition does (CommonMark 5, and this project).
unfoldable pub next_block : Options → Level → Continues → List Place → NextBlock
next_block options l (AtPlace p Anything) lines = next_block_at (context options l.path) p lines
next_block options l (AtPlace p OnlyALeaf) lines = Begins p lines
next_block options l (AtPlace p (TextOf marker)) lines = Begins p lines
next_block options l (AtPlace p (OnlyMark marker blanks)) lines = Begins p lines
next_block options l Line [] = Ends (Lines [])
next_block options l Line (line ∷ lines) = next_block_in options l (taken l.path line) (line ∷ lines)
next_block options l (Blanks e) [] = Ends (Lines [])
next_block options l (Blanks e) (line ∷ lines) = next_block_blank (taken l.path line) (line ∷ lines)

-- where blocks continue around a container that leaves this, and the lines after that (this project)
abbrev pub onward : Remaining → Continues × List Place
onward (Lines lines) = (Line, lines)
onward (InLine p lines) = (Inside p, lines)

-- where blocks continue after the first block of a sequence
abbrev pub after_first : Continues → Continues → Continues
after_first (Blanks e) there = Blanks e
after_first Line there = there
after_first (AtPlace p Anything) there = there
after_first (AtPlace p OnlyALeaf) there = there
after_first (AtPlace p (TextOf marker)) there = there
after_first (AtPlace p (OnlyMark marker blanks)) there = after_marker blanks

-- the offset after the line of an item's marker, if the item takes only blank lines
abbrev pub only_blanks : Continues → Option ℕ
only_blanks Line = None
only_blanks (Blanks e) = Some e
only_blanks (AtPlace p Anything) = None
only_blanks (AtPlace p OnlyALeaf) = None
only_blanks (AtPlace p (TextOf marker)) = None
only_blanks (AtPlace p (OnlyMark marker blanks)) = blanks

-- The end of a container before these lines, given the path around it: the start of the next line. An item that takes
-- only blank lines ends after the line of its marker if the next line continues that path (this project).
abbrev pub end_after : ℕ → List Container → Option ℕ → List Place → ℕ
end_after n path None lines = start_of n lines
end_after n path (Some e) lines = if next_goes_on path lines then e else start_of n lines

-- the same, given what the container leaves: a footnote definition that another one ends stops at the `[` of that one
-- (this project)
abbrev pub end_of_left : ℕ → List Container → Option ℕ → Remaining → ℕ
end_of_left n path blanks (Lines lines) = end_after n path blanks lines
end_of_left n path blanks (InLine p lines) = offset (unindented p)

abbrev pub end_before : ℕ → List Container → Continues → Remaining → ℕ
end_before n path from left = end_of_left n path (only_blanks from) left

-- the first block of a sequence: its place, the lines after that, and what it opens
pub record IsFirst (d : Document) (l : Level) (from : Continues) (lines : List Place) (opening : Opening) : Type 0 where
  pub place : Place
  pub following : List Place
  pub begins : next_block d.options l from lines ≡ Begins place following
  pub opens : OpensAt d l from place following opening

-- These blocks are a sequence at this level, from here up to what they leave.
unfoldable pub IsSequence : Document → Skeleton → Level → Continues → List Place → Remaining → Type 0
IsSequence d Nil l from lines left = next_block d.options l from lines ≡ Ends left
IsSequence d (Then leaf next) l from lines left =
    (there : Continues) × (mid : List Place) × IsFirst d l from lines (OpensLeaf leaf there mid)
    × IsSequence d next (level_after_leaf l leaf) (after_first from there) mid left
IsSequence d (Node head e kids next) l from lines left =
    (inside : Continues) × (following : List Place) × (mid : Remaining) × IsFirst d l from lines (OpensNode head inside following)
    × IsSequence d kids (level_in (opened head.opener) l) inside following mid × (e ≡ end_before (length d.text) l.path inside mid)
    × IsSequence d next (level_after l head kids) (after_first from (onward mid).0) (onward mid).1 left
