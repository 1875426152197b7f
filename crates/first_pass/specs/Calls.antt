-- What the calls of a pass do: one record for each kind of call.
use Rattle.std.specs.Prelude.{◌≡◌, ℕ, ◌+◌, ◌-◌, ◌≤◌, ◌<◌, Bool, true, false, List, [], ◌∷◌, length, drop, Option, Some, None, IfSome, IsCharBoundary}
use Rattle.std.specs.Prelude.{Result, IfOk}
use Rattle.std.specs.declared.alloc.AllocError.{AllocError}
use Rattle.first_pass_items.specs.declared.item.AlignmentIndex.{AlignmentIndex}
use Rattle.first_pass_items.specs.declared.item.HeadingLevel.{HeadingLevel}
use Rattle.first_pass_items.specs.declared.item.Item.{Item}
use Rattle.first_pass_items.specs.declared.item.ItemBody.TheVariants.{Table}
use Rattle.first_pass_items.specs.declared.option_set.Options.{Options}
use Rattle.first_pass_tree.specs.Forest.{added, appended}
use Rattle.first_pass_tree.specs.declared.tree_index.TreeIndex.{TreeIndex}
use Rattle.first_pass_scan.specs.LeafLines.{hrule_len}
use Rattle.first_pass_walk.specs.declared.flank.TableParseMode.{TableParseMode}
use Rattle.first_pass_walk.specs.declared.flank.TableParseMode.TheVariants.{Active}
use Rattle.first_pass_html.specs.Ends.{BlockEnd}
use Rattle.first_pass_lines.specs.Places.{Place}
use Rattle.first_pass_grammar.specs.Completion.{lines_from}
use Rattle.first_pass_grammar.specs.Derivation.{no_tables}
use Rattle.first_pass_grammar.specs.CodeBlocks.{IsFencedCode, IsMetadata}
use Rattle.first_pass_grammar.specs.HtmlBlocks.{IsHtml}
use Rattle.first_pass_grammar.specs.Leaves.{document, rule_block}
use Rattle.first_pass_grammar.specs.Names.{Names, AreNamed, alignments_named, index_of}
use Rattle.first_pass_grammar.specs.Order.{GrowsBy, is_task_marker}
use Rattle.first_pass_grammar.specs.OpenOrder.{IsOrderedTo}
use Rattle.first_pass_grammar.specs.Tables.{most_inserted}
use Rattle.first_pass_grammar.specs.WholeTables.{HasWholeTables, inserted_in}
use Rattle.first_pass_names.specs.TableEntries.{names_of, tables_of, NamesMore, AddsTexts}
use Rattle.first_pass_tokens.specs.Braces.{no_braces}
use Rattle.first_pass_tokens.specs.LineTokens.{is_break}
use Rattle.first_pass_open.specs.Between.{line_end_at, AddsBetween, MarkerIsInItem, MarkerBetween}
use Rattle.first_pass_lists.specs.Closing.{begun, state_with, with_block, empty_item_closed, is_item, is_list, top_body}
use Rattle.first_pass_lists.specs.declared.state.PassState.{PassState}
use Rattle.first_pass_leaves.specs.RawBlocks.{IsPlaceAt, range_of, AppendsRaw, AddsIndented, AddsRaw, fenced_after, metadata_after, html_to_end, html_to_blank}
use Rattle.first_pass_leaves.specs.declared.fenced_code.Fence.{Fence}
use Rattle.first_pass_leaves.specs.declared.raw_line.RawKind.{RawKind}
use Rattle.first_pass_tables.specs.Appends.{open_table, IsOpenNode, ReadsRow, ReadsRowLine, AppendsRows, AddsWholeRows}
use Rattle.first_pass_tables.specs.declared.row.CellsWanted.{CellsWanted}
use Rattle.first_pass_leaves.specs.Appends.{AddsHeading}
use Rattle.first_pass_containers.specs.TextsAdded.{AddsText}
use Rattle.first_pass_blocks.specs.OpenedFootnotes.{ReadsFootnote, StaysSame}
use Rattle.first_pass_order.specs.Ordered.{IsOrderedAt, IsOrderedFrom, IsReadFrom, IsReadTo}
use Rattle.first_pass_containers.specs.Positions.{LineAt}
use Rattle.first_pass_blocks.specs.Progress.{ReadsBlock}
use Rattle.first_pass_blocks.specs.Written.{HasFirstLabels}
use Rattle.first_pass_ready.specs.State.{Ready}
use Rattle.first_pass.specs.declared.state.FirstPass.{FirstPass}
use Rattle.first_pass.specs.Adding.{MayAddAt}
use Rattle.first_pass.specs.Holds.{after_row, ContinuesChain, HoldsChain, IsTableOpen}
use Rattle.first_pass.specs.Lines.{ReadsInMode}
use Rattle.first_pass.specs.Kept.{StayNamed, StayWhole, KeepsEntries, KeepsNames, KeepsTables}
use Rattle.first_pass.specs.Views.{allocs_of, braces_of, context_in, document_named, pass_of, state_of, source_of}
use Rattle.first_pass.specs.Views.{source_options, source_text, tree_of, with_tree}

-- The state of a pass over this text under these options before it reads anything: the root is its only node, nothing
-- is defined, no brace context is open, a block can be added, and the derivation of the text begins here (this
-- project).
pub record StartsPass (text : List ℕ) (options : Options) (pass : FirstPass) : Type 0 where
  pub text_is : source_text pass ≡ text
  pub options_are : source_options pass ≡ options
  pub empty : tables_of (allocs_of pass) ≡ no_tables
  pub ready : (names : Names) → Ready (document text options names) no_tables (state_of pass) (lines_from text 0)
  pub may_add : MayAddAt text (state_of pass) 0
  pub root : length (tree_of pass).nodes ≡ 1
  pub named : AreNamed (names_of (allocs_of pass)) (tree_of pass).nodes
  pub labels : HasFirstLabels (allocs_of pass) (tree_of pass).nodes
  pub tables : HasWholeTables (names_of (allocs_of pass)) (tree_of pass)
  pub braces : braces_of pass ≡ no_braces

-- the block that begins in the line at the first offset is read; reading continues at the second; the brace contexts
-- are unchanged (this project)
pub record ReadsBlockAt (old new : FirstPass) (start next : ℕ) : Type 0 where
  pub block : ReadsBlock (pass_of old) (pass_of new) (1 + start) (LineAt start) next
  pub braces : braces_of new ≡ braces_of old

-- Open nodes are closed or opened at an offset, which gives this state. If the old state was in order and its nodes
-- could be closed, the same holds for the new one up to the offset (CommonMark 5.2, 5.3, and this project).
pub record RemembersAt (old new : FirstPass) (ix : ℕ) (r : PassState) : Type 0 where
  pub kept : KeepsTables old new
  pub state : state_of new ≡ r
  pub order : (at : ℕ) → at ≤ ix → ix ≤ length (source_text old) → IsCharBoundary (source_text old) ix → IsReadTo (source_text old) (state_of old) at
      → IsReadTo (source_text old) (state_of new) ix

-- The innermost open node is closed at an offset. If it is no item, the one around it is then no list (CommonMark 5.2,
-- 5.3, and this project).
pub record ClosesNode (old new : FirstPass) (ix : ℕ) (r : PassState) : Type 0 where
  pub closes : RemembersAt old new ix r
  pub outside : (at : ℕ) → is_item (top_body (tree_of old)) ≡ false → IsReadTo (source_text old) (state_of old) at
      → is_list (top_body (tree_of new)) ≡ false

-- What a new block ends is closed at an offset. No counting blank line is before the block then, and the innermost open
-- node is no list (CommonMark 5.2, 5.3, and this project).
pub record ClosesLists (old new : FirstPass) (ix : ℕ) (r : PassState) : Type 0 where
  pub closes : RemembersAt old new ix r
  pub blank : (state_of new).blank ≡ false
  pub outside : (at : ℕ) → IsReadTo (source_text old) (state_of old) at → is_list (top_body (tree_of new)) ≡ false

-- an empty item, if there is one, is finished; what was in order and could be closed remains so (CommonMark 5.2,
-- and this project)
pub record FinishesItem (old new : FirstPass) : Type 0 where
  pub kept : KeepsTables old new
  pub state : state_of new ≡ empty_item_closed (state_of old)
  pub order : (at : ℕ) → IsReadTo (source_text old) (state_of old) at → IsReadTo (source_text old) (state_of new) at

-- A leaf block that begins at an offset is added, and reading continues at another. No item is empty after it, and
-- `blank` is true if a counting blank line is directly before the next line. The new nodes lie between the two
-- offsets. If the first is a character boundary, the state is in order up to the second, and a further block can be
-- added there. Whole tables stay whole (this project).
pub record AddsLeafBlock (old new : FirstPass) (start next : ℕ) (blank : Bool) : Type 0 where
  pub kept : KeepsNames old new
  pub whole : StayWhole old new
  pub state : state_of new ≡ state_with (tree_of new) None blank
  pub fits : (from : ℕ) → from ≤ start → IsCharBoundary (source_text old) start → AddsBetween (source_text old) from next (tree_of old) (tree_of new)
  pub order : (at : ℕ) → at ≤ start → IsCharBoundary (source_text old) start → IsOrderedAt (source_text old) (state_of old) at
      → IsOrderedAt (source_text old) (state_of new) next
  pub may_add : (at : ℕ) → at ≤ start → IsCharBoundary (source_text old) start → MayAddAt (source_text old) (state_of old) at
      → MayAddAt (source_text old) (state_of new) next

-- the same for a block of whole lines, counted from its first character: reading continues at a character boundary,
-- after the block's first line or later (CommonMark 4.4 to 4.6, and this project)
pub record AddsLineBlock (old new : FirstPass) (start next : ℕ) (blank : Bool) : Type 0 where
  pub leaf : AddsLeafBlock old new start next blank
  pub later : line_end_at (source_text old) start ≤ next
  pub boundary : IsCharBoundary (source_text old) next

-- The ATX heading of a level that begins at an offset is added, and reading continues at another, which is a character
-- boundary if the first is one (CommonMark 4.2).
pub record AddsAtxHeading (old new : FirstPass) (start : ℕ) (level : HeadingLevel) (next : ℕ) : Type 0 where
  pub block : AddsHeading (document_named old new) start level (tree_of old) (tree_of new) next
  pub leaf : AddsLeafBlock old new start next (state_of old).blank
  pub boundary : IsCharBoundary (source_text old) start → IsCharBoundary (source_text old) next

-- Indented code is added. The content of its first line begins at an offset, with columns owed there (CommonMark 4.4).
pub record AddsIndentedCode (old new : FirstPass) (start owed next : ℕ) : Type 0 where
  pub block : (p : Place) → IsPlaceAt (source_text old) start p → p.rest.owed ≡ owed
      → AddsIndented (document_named old new) p (tree_of old) (tree_of new) next (state_of new).blank
  pub leaf : AddsLineBlock old new start next (state_of new).blank

-- the fenced code block is added whose opening fence begins at an offset (CommonMark 4.5)
pub record AddsFencedCode (old new : FirstPass) (start : ℕ) (fence : Fence) (next : ℕ) : Type 0 where
  pub block : let e = fenced_after (source_text old) (context_in old).path fence.indent fence.byte fence.count start in
      AddsRaw (document_named old new) (λ d. IsFencedCode d start fence.count e.places e.«end») e.left (tree_of old) (tree_of new) next
  pub leaf : AddsLineBlock old new start next (state_of old).blank

-- the metadata block is added that begins at an offset with three of a byte (this project)
pub record AddsMetadata (old new : FirstPass) (start byte next : ℕ) : Type 0 where
  pub block : let e = metadata_after (source_text old) (context_in old).path byte start in
      AddsRaw (document_named old new) (λ d. IsMetadata d start byte e.places e.«end») e.left (tree_of old) (tree_of new) next
  pub leaf : AddsLineBlock old new start next (state_of old).blank

-- An HTML block after these columns is added that ends with the first line that has its end condition (CommonMark 4.6).
pub record AddsHtmlToEnd (old new : FirstPass) (start : ℕ) (until : BlockEnd) (columns next : ℕ) : Type 0 where
  pub block : (p : Place) → IsPlaceAt (source_text old) start p → let e = html_to_end (source_text old) (context_in old).path until p in
      AddsRaw (document_named old new) (λ d. IsHtml d start columns e.places e.«end») e.left (tree_of old) (tree_of new) next
  pub leaf : AddsLineBlock old new start next (state_of old).blank

-- An HTML block after these columns is added that ends before a blank line. Its nodes lie between an offset and the
-- block's end, which may be after the container prefixes of the blank line. Reading continues at the start of that
-- line. The state is in order up to there, or the tree is in order up to after these prefixes. The open nodes can still
-- be closed in order. No counting blank line is before that line, so it ends no footnote definition in the old form.
-- Whole tables stay whole (CommonMark 4.6, and this project).
pub record AddsHtmlToBlank (old new : FirstPass) (start columns next : ℕ) : Type 0 where
  pub block : (p : Place) → IsPlaceAt (source_text old) start p → let e = html_to_blank (source_text old) (context_in old).path p in
      AddsRaw (document_named old new) (λ d. IsHtml d start columns e.places e.«end») e.left (tree_of old) (tree_of new) next
  pub kept : KeepsNames old new
  pub whole : StayWhole old new
  pub state : state_of new ≡ state_with (tree_of new) None false
  pub later : line_end_at (source_text old) start ≤ next
  pub boundary : IsCharBoundary (source_text old) next
  pub fits : (p : Place) → IsPlaceAt (source_text old) start p → (from : ℕ) → from ≤ start
      → AddsBetween (source_text old) from (html_to_blank (source_text old) (context_in old).path p).«end» (tree_of old) (tree_of new)
  pub order : (at : ℕ) → at ≤ start → IsOrderedAt (source_text old) (state_of old) at
      → IsOrderedFrom (source_options old) (source_text old) (state_of new) next
  pub may_add : (at : ℕ) → at ≤ start → MayAddAt (source_text old) (state_of old) at
      → IsReadFrom (source_options old) (source_text old) (state_of new) next × (is_list (top_body (tree_of new)) ≡ false)
  pub node_bound : (from : ℕ) → from ≤ start → from < next → GrowsBy from next (tree_of old).nodes (tree_of new).nodes

-- A thematic break of `size` bytes that begins at an offset is added, and reading continues after it. If both of its
-- ends are character boundaries, it is in order, and a further block can be added. If that is the size of the thematic
-- break in the text there, the second end is one if the first is (CommonMark 4.1, and this project).
pub record AddsRule (old new : FirstPass) (ix size next : ℕ) : Type 0 where
  pub kept : KeepsTables old new
  pub state : state_of new ≡ with_block (state_of old) (tree_of new)
  pub block : tree_of new ≡ added (tree_of old) (rule_block ix size)
  pub fits : (from : ℕ) → from ≤ ix → IsCharBoundary (source_text old) ix → IsCharBoundary (source_text old) (ix + size)
      → AddsBetween (source_text old) from (ix + size) (tree_of old) (tree_of new)
  pub order : (at : ℕ) → at ≤ ix → IsCharBoundary (source_text old) ix → IsCharBoundary (source_text old) (ix + size)
      → IsOrderedAt (source_text old) (state_of old) at → IsOrderedAt (source_text old) (state_of new) next
  pub may_add : (at : ℕ) → at ≤ ix → IsCharBoundary (source_text old) ix → IsCharBoundary (source_text old) (ix + size)
      → MayAddAt (source_text old) (state_of old) at → MayAddAt (source_text old) (state_of new) next
  pub following : next ≡ ix + size
  pub boundary : hrule_len (drop ix (source_text old)) ≡ Some size → IsCharBoundary (source_text old) ix → IsCharBoundary (source_text old) next

-- The paragraph, setext heading or table at an offset is added, after the marker of its task list item if it has one.
-- Its nodes lie between the start of the text, or of that marker, and the offset at which reading continues. A further
-- block can be added there. If the marker has no index, each index names an entry if each did before. If it is that of
-- a task list item, whole tables stay whole (CommonMark 4.8, GFM 5.3, and this project).
pub record AddsParagraph (old new : FirstPass) (start : ℕ) (marker : Option Item) (next : ℕ) : Type 0 where
  pub block : AddsText (document_named old new) start marker (tree_of old) (tree_of new) next
  pub source : source_of new ≡ source_of old
  pub more : NamesMore (allocs_of old) (allocs_of new)
  pub braces : braces_of new ≡ braces_of old
  pub named : IfSome marker (λ x. index_of x.body ≡ None) → StayNamed old new
  pub whole : IfSome marker (λ x. is_task_marker x.body ≡ true) → StayWhole old new
  pub state : state_of new ≡ with_block (state_of old) (tree_of new)
  pub fits : MarkerIsInItem (tree_of old) marker → (from : ℕ) → MarkerBetween (source_text old) from start marker
      → AddsBetween (source_text old) from next (tree_of old) (tree_of new)
  pub order : MarkerIsInItem (tree_of old) marker → (at : ℕ) → MarkerBetween (source_text old) at start marker
      → IsOrderedAt (source_text old) (state_of old) at → IsOrderedAt (source_text old) (state_of new) next
  pub may_add : MarkerIsInItem (tree_of old) marker → (at : ℕ) → MarkerBetween (source_text old) at start marker
      → MayAddAt (source_text old) (state_of old) at → MayAddAt (source_text old) (state_of new) next

-- A raw line between two offsets is appended, after the columns owed before it. If both offsets are character
-- boundaries, the state is in order up to the line's end, and a block can still be added. Whole tables stay whole
-- (this project).
pub record AppendsRawLine (kind : RawKind) (old new : FirstPass) (owed start «end» : ℕ) : Type 0 where
  pub line : AppendsRaw (range_of kind) (source_text old) (names_of (allocs_of new)) owed start «end» (tree_of old) (tree_of new)
  pub kept : KeepsNames old new
  pub whole : StayWhole old new
  pub state : state_of new ≡ with_block (state_of old) (tree_of new)
  pub order : (at : ℕ) → at ≤ start → IsCharBoundary (source_text old) start → IsCharBoundary (source_text old) «end»
      → IsOrderedAt (source_text old) (state_of old) at → IsOrderedAt (source_text old) (state_of new) «end»
  pub may_add : (at : ℕ) → at ≤ start → IsCharBoundary (source_text old) start → IsCharBoundary (source_text old) «end»
      → MayAddAt (source_text old) (state_of old) at → MayAddAt (source_text old) (state_of new) «end»

-- The tokens between two offsets of a text, which may be cut at `end`, are appended: at most one for each byte. If the
-- first offset and the cut are character boundaries, so is the second offset, the tokens are in order, and a block can
-- still be added. The item to which the tokens are added is no longer empty. Whole tables stay whole (CommonMark 2.4,
-- GFM 4.10, and this project).
pub record AppendsTokens (old new : FirstPass) (start : ℕ) (end : Option ℕ) (stop : ℕ) : Type 0 where
  pub kept : KeepsEntries old new
  pub whole : StayWhole old new
  pub state : state_of new ≡ with_block (state_of old) (tree_of new)
  pub boundary : IfSome end (λ e. IsCharBoundary (source_text old) e) → IsCharBoundary (source_text old) start → IsCharBoundary (source_text old) stop
  pub order : IfSome end (λ e. IsCharBoundary (source_text old) e) → IsCharBoundary (source_text old) start → (at : ℕ) → at ≤ start
      → IsOrderedAt (source_text old) (state_of old) at → IsOrderedAt (source_text old) (state_of new) stop
  pub may_add : IfSome end (λ e. IsCharBoundary (source_text old) e) → IsCharBoundary (source_text old) start → (at : ℕ) → at ≤ start
      → MayAddAt (source_text old) (state_of old) at → MayAddAt (source_text old) (state_of new) stop
  pub node_bound : length (tree_of new).nodes ≤ length (tree_of old).nodes + (stop - start)

-- What a line that is read, with the returned line break, does to the open nodes, if its ends are character
-- boundaries. A block can still be added if the break is appended. If the innermost of them contains a chain up to an
-- offset that is not after the line's start, it contains one up to the returned offset. So a line may begin after
-- container prefixes (CommonMark 6.7, 6.8, and this project).
pub record ContinuesBlock (old new : FirstPass) (start : ℕ) (end : Option ℕ) (answer : ℕ × Option Item) : Type 0 where
  pub broken : IfSome end (λ e. IsCharBoundary (source_text old) e) → IsCharBoundary (source_text old) start → (at : ℕ) → at ≤ start
      → MayAddAt (source_text old) (state_of old) at
      → IfSome answer.1 (λ x. is_break x.body ≡ true → MayAddAt (source_text old) (with_tree (state_of new) (appended (tree_of new) x)) answer.0)
  pub chain : IfSome end (λ e. IsCharBoundary (source_text old) e) → IsCharBoundary (source_text old) start → (block : TreeIndex) (to : ℕ)
      → to ≤ start → HoldsChain (source_text old) (tree_of old) block to → ContinuesChain (source_text old) (tree_of new) block answer

-- the same unless a cell is read, which no block with text contains (GFM 4.10)
abbrev pub ContinuesInMode : TableParseMode → FirstPass → FirstPass → ℕ → Option ℕ → ℕ × Option Item → Type 0
ContinuesInMode Active old new start end answer = Unit {0}
ContinuesInMode mode old new start end answer = ContinuesBlock old new start end answer

-- A line, a cell of a row, or a possible header row is read, depending on the mode. Reading continues at the returned
-- offset (CommonMark 2.4, GFM 4.10).
pub record ReadsContent (mode : TableParseMode) (old new : FirstPass) (start : ℕ) (end : Option ℕ) (answer : ℕ × Option Item) : Type 0 where
  pub line : ReadsInMode mode old new start end answer
  pub tokens : AppendsTokens old new start end answer.0
  pub block : ContinuesInMode mode old new start end answer

-- The rows of a table with this many columns are added to it, and the table is closed where reading continues. If the
-- line of the header row ends at or before `body_start`, they are whole, in order, and at most four nodes for each
-- byte, and a further block can be added. Whole tables stay whole, from before the table was opened, if its index
-- names the alignments of its columns, and the header row needs no more inserted cells than a table may have (GFM
-- 4.10, and this project).
pub record ClosesTable (old new : FirstPass) (columns head_start body_start next : ℕ) : Type 0 where
  pub kept : KeepsNames old new
  pub texts : AddsTexts (names_of (allocs_of new)) (names_of (allocs_of old))
  pub state : state_of new ≡ with_tree (state_of old) (tree_of new)
  pub rows : AppendsRows (document (source_text old) (source_options old) (names_of (allocs_of new))) columns head_start body_start (tree_of old) (tree_of new)
      next
  pub order : (at : ℕ) → at ≤ head_start → line_end_at (source_text old) head_start ≤ body_start → IsOrderedTo (source_text old) (tree_of old) at
      → IsOrderedTo (source_text old) (tree_of new) next
  pub may_add : IsTableOpen (tree_of old) → (at : ℕ) → at ≤ head_start → line_end_at (source_text old) head_start ≤ body_start
      → MayAddAt (source_text old) (state_of old) at → MayAddAt (source_text old) (state_of new) next
  pub node_bound : (from : ℕ) → from ≤ head_start → line_end_at (source_text old) head_start ≤ body_start → from < next
      → GrowsBy from next (tree_of old).nodes (tree_of new).nodes
  pub tables : AddsWholeRows (document (source_text old) (source_options old) (names_of (allocs_of new))) columns head_start (tree_of old) (tree_of new) next
  pub whole : (r : PassState) (start : ℕ) (index : AlignmentIndex) → tree_of old ≡ (begun start (Table index) r).tree
      → length (alignments_named (names_of (allocs_of old)) index) ≡ columns → inserted_in (tables.head ∷ []) ≤ most_inserted
      → AreNamed (names_of (allocs_of old)) r.tree.nodes → HasWholeTables (names_of (allocs_of old)) r.tree
      → HasWholeTables (names_of (allocs_of new)) (tree_of new)

-- A row of a table that begins at an offset is read, or there is none. If the offset is a character boundary, the row
-- is in order, ends at one, and has at most four nodes for each byte. Its texts are appended to the named texts. The
-- table remains open, and a further row can be added (GFM 4.10, and this project).
pub record ReadsRowFrom (old new : FirstPass) (ix next : ℕ) : Type 0 where
  pub kept : KeepsEntries old new
  pub texts : AddsTexts (names_of (allocs_of new)) (names_of (allocs_of old))
  pub state : state_of new ≡ with_tree (state_of old) (tree_of new)
  pub boundary : IsCharBoundary (source_text old) ix → IsCharBoundary (source_text old) next
  pub order : IsCharBoundary (source_text old) ix → (at : ℕ) → at ≤ ix → IsOrderedTo (source_text old) (tree_of old) at
      → IsOrderedTo (source_text old) (tree_of new) next
  pub may_add : IsTableOpen (tree_of old) → IsCharBoundary (source_text old) ix → (at : ℕ) → at ≤ ix
      → MayAddAt (source_text old) (state_of old) at → MayAddAt (source_text old) (state_of new) next × IsTableOpen (tree_of new)
  pub open_node : IsCharBoundary (source_text old) ix → IsOpenNode (tree_of old) → IsOpenNode (tree_of new)
  pub node_bound : IsCharBoundary (source_text old) ix → (from : ℕ) → from ≤ ix → from < next → GrowsBy from next (tree_of old).nodes (tree_of new).nodes

-- A row of a table is read from an offset on, after the container prefixes of its line, or there is none. The numbers
-- count the cells that are inserted into the table before and after it (GFM 4.10, and this project).
pub record ReadsTableRow (old new : FirstPass) (wanted : CellsWanted) (inserted more : ℕ) (row : Option (ℕ × TreeIndex)) : Type 0 where
  pub row_is : ReadsRow (document_named old new) wanted.most wanted.start (open_table (tree_of old) inserted (braces_of old))
      (open_table (tree_of new) more (braces_of new)) row
  pub reads : ReadsRowFrom old new wanted.start (after_row row wanted.start)

-- the same for a row in the line that begins at an offset, which may have container prefixes (GFM 4.10, and this
-- project)
pub record ReadsTableLine (old new : FirstPass) (wanted : CellsWanted) (inserted more : ℕ) (row : Option (ℕ × TreeIndex)) : Type 0 where
  pub row_is : ReadsRowLine (document_named old new) wanted.most wanted.start (open_table (tree_of old) inserted (braces_of old))
      (open_table (tree_of new) more (braces_of new)) row
  pub reads : ReadsRowFrom old new wanted.start (after_row row wanted.start)

-- The head of a footnote definition is sought at an offset; `size` is the number of bytes of the head, if one begins
-- there. Then its definition is open and in order, and a block can be added to it. The brace contexts are unchanged.
-- Each index names an entry if each did before, and the tables among the nodes are then whole if they were (this
-- project).
pub record OpensFootnote (old new : FirstPass) (start : ℕ) (size : Option ℕ) : Type 0 where
  pub braces : braces_of new ≡ braces_of old
  pub named : StayNamed old new
  pub whole : StayWhole old new
  pub head : ReadsFootnote (pass_of old) (pass_of new) start size
  pub none : size ≡ None → StaysSame (pass_of old) (pass_of new)
  pub within : IfSome size (λ n. (3 < n) × IsCharBoundary (source_text old) (start + n))
  pub may_add : IfSome size (λ n. (at : ℕ) → at ≤ start → IsReadTo (source_text old) (state_of old) at → MayAddAt (source_text old) (state_of new) start)

-- The head of a footnote definition is sought at an offset, and opened if one begins there. The text and the options
-- are the same, also after an error (this project).
pub record SeeksFootnote (old new : FirstPass) (start : ℕ) (result : Result (Option ℕ) AllocError) : Type 0 where
  pub source : source_of new ≡ source_of old
  pub footnote : IfOk result (λ size. OpensFootnote old new start size)
