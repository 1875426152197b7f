-- A property of leaf blocks, by their first body and the nodes below it, holds for each leaf block of a document.
use Rattle.std.proofs.Common.{◌≡◌, ℕ, ◌-◌, ◌||◌, Bool, true, false, List, ◌∷◌, ◌++◌, length, drop, Option, Some, None, MatchOption, IfSome, refl, sym, ap}
use Rattle.std.proofs.Common.{subst, arith, []}
use Rattle.first_pass_grammar.proofs.Common.{or_right, slice_get_within, Alignment, HeadingLevel, Item, ItemBody, Rule, IndentCodeBlock, FencedCodeBlock}
use Rattle.first_pass_grammar.proofs.Common.{MetadataBlock, HtmlBlock, TableHead, TableRow, TableCell, TaskListMarker, Text, SoftBreak, HardBreak, Html}
use Rattle.first_pass_grammar.proofs.Common.{SynthesizeText, at_depth, block_of, level_number, Place, offset, start_of, no_braces, spot, is_markup}
use Rattle.first_pass_grammar.proofs.Common.{metadata_kind, is_row, is_cell, Kind, Blank, IndentedCode, Metadata, HtmlToEnd, HtmlToBlank, ThematicBreak}
use Rattle.first_pass_grammar.proofs.Common.{AtxHeading, FencedCode, LinkDefinitions, unindented, Document, around, block_with, heading_text_at, TextLines}
use Rattle.first_pass_grammar.proofs.Common.{Ended, FlowsOn, range_text, range_html, AreRawLines, Opening, OpensText, OpensRun, OpensAs}
use Rattle.first_pass_grammar.proofs.Common.{headed_table, inserted, most_inserted, row_block, table_so_far, Taken, taking, IsTable, IsPlainText, IsText}
use Rattle.first_pass_grammar.proofs.Common.{IsUnderlined, text_children, heading_children, plain_text, underline_first, AreEachNode}
use Rattle.first_pass_items.specs.declared.item.ItemBody.TheVariants.{Paragraph as ParagraphBody, Heading as HeadingBody}
use Rattle.first_pass_grammar.specs.declared.kind.Container.{Container}
use Rattle.first_pass_grammar.specs.Kinds.{Paragraph}
use Rattle.first_pass_grammar.proofs.Each.EachCell.{both_nodes, deeper_nodes, leaves_nodes, row_nodes, cells_nodes, rows_nodes}
use Rattle.first_pass_grammar.proofs.Each.EachOpening.{LeafHolds, AnyHead, HoldsOfOpenings}
use Rattle.first_pass_grammar.proofs.Each.EachToken.{AreEach, HoldsOfTokens, HoldsOfRaw, children_each, heading_children_each, lines_each, heading_each}
use Rattle.first_pass_grammar.proofs.Each.EachToken.{range_text_each, range_html_each, raw_lines_each}
use Rattle.first_pass_grammar.proofs.Names.NamedItems.{HasEntry, markup_entered, given_entry}
use Rattle.first_pass_grammar.proofs.Sequences.LinesLeft.{run_left}
use Rattle.first_pass_grammar.proofs.Sequences.PlacesKept.{HoldsAtEach, IsKeptLater, at_unindented}

-- the first body of a leaf block that is no table; a task list item marker without a text is one too
abbrev pub is_first : ItemBody → Bool
is_first ParagraphBody = true
is_first (HeadingBody level index) = true
is_first IndentCodeBlock = true
is_first (FencedCodeBlock info) = true
is_first (MetadataBlock kind) = true
is_first HtmlBlock = true
is_first Rule = true
is_first (TaskListMarker checked) = true
is_first body = false

-- a body in a line: a text, a break, the HTML of a raw line, or a task list item marker
abbrev pub is_line_part : ItemBody → Bool
is_line_part (Text escaped) = true
is_line_part SoftBreak = true
is_line_part (HardBreak by_backslash) = true
is_line_part Html = true
is_line_part (TaskListMarker checked) = true
is_line_part body = false

-- a later body in such a block: a part of a line, or a token of possible markup
abbrev pub is_later : ItemBody → Bool
is_later body = is_line_part body || is_markup body

-- a property of leaf blocks that are no tables, by a property of their later bodies
pub record HoldsOfBlocks (d : Document) (Inner : ItemBody → Type 0) (P : List (ℕ × Item) → Type 0) : Type 0 where
  pub later : (body : ItemBody) → is_later body ≡ true → HasEntry d.names body → Inner body
  pub block : (x : Item) (kids : List (ℕ × Item)) → is_first x.body ≡ true → HasEntry d.names x.body → AreEachNode Inner kids → P (block_of x kids)
  pub none : P []

-- the same of all leaf blocks, if a property of places holds where they begin
pub record HoldsOfLeaves (d : Document) (At : Place → Type 0) (Inner : ItemBody → Type 0) (P : List (ℕ × Item) → Type 0) : Type 0 where
  pub blocks : HoldsOfBlocks d Inner P
  pub kept : IsKeptLater At
  pub table : (path : List Container) (p : Place) (alignments : List Alignment) (lines : List Place) (t : Taken) → At p
      → headed_table (around d path) p.rest.left ≡ Some alignments → IsTable d path p alignments lines t → P t.items

module _ (d : Document) (Inner : ItemBody → Type 0) (P : List (ℕ × Item) → Type 0) (holds : HoldsOfBlocks d Inner P) where
  pub tokens : HoldsOfTokens d.names.texts Inner
  tokens = grind (arith, Text, SoftBreak, HardBreak, or_right, markup_entered)

  raw : HoldsOfRaw d.names.texts Inner
  raw = record { html = holds.later Html refl tt; columns = λ ix within. holds.later (SynthesizeText ix) refl within }

  -- a block with a chain
  chain_holds : (start stop : ℕ) (body : ItemBody) (chain : List Item) (items : List (ℕ × Item)) → items ≡ block_with start stop body chain
      → is_first body ≡ true → HasEntry d.names body → AreEach Inner chain → P items
  chain_holds start stop body chain items is first entry h = grind (arith, leaves_nodes)

  -- a block of raw lines
  text_lines : (start stop : ℕ) (body : ItemBody) (places : List Place) (chain : List Item) (items : List (ℕ × Item)) → AreRawLines range_text d [] places chain
      → items ≡ block_with start stop body chain → is_first body ≡ true → HasEntry d.names body → P items
  text_lines start stop body places chain items are is first entry =
      chain_holds start stop body chain items is first entry (raw_lines_each Inner d raw range_text [] places chain (range_text_each Inner tokens.text) tt are)

  html_lines : (start stop : ℕ) (places : List Place) (chain : List Item) (items : List (ℕ × Item)) → AreRawLines range_html d [] places chain
      → items ≡ block_with start stop HtmlBlock chain → P items
  html_lines start stop places chain items are is =
      chain_holds start stop HtmlBlock chain items is refl tt (raw_lines_each Inner d raw range_html [] places chain (range_html_each Inner d raw) tt are)

  -- a setext heading or a paragraph
  ended_holds : (start : ℕ) (marker : Option Item) (l : TextLines) (t : Taken) (o : Option (ℕ × HeadingLevel)) → IfSome marker (λ x. Inner x.body)
      → AreEach Inner l.chain → MatchOption o (t ≡ plain_text d start marker l) (λ underline. IsUnderlined d start marker l underline.1 t) → P t.items
  ended_holds start marker l t None mark h e =
      chain_holds start (start_of (length d.text) l.left) ParagraphBody (text_children marker l) t.items (ap (λ (z : Taken). z.items) e) refl tt
      (children_each Inner tokens.text marker l mark h)
  ended_holds start marker l t (Some underline) mark h (index, named, e) =
      chain_holds start (start_of (length d.text) (drop 1 l.left)) (HeadingBody underline.1 index) (heading_children d start marker l) t.items
      (ap (λ (z : Taken). z.items) e) refl (given_entry d.names index _ named) (heading_children_each Inner tokens.text d start marker l mark h)

  -- the nodes below a table
  pub table_nodes : (cells : (body : ItemBody) → (is_row body || is_cell body) ≡ true → Inner body) (path : List Container) (p : Place)
      (alignments : List Alignment) (lines : List Place) (t : Taken) (h : IsTable d path p alignments lines t)
      → AreEachNode Inner (at_depth 1 (row_block TableHead (length alignments) (offset p) h.cells h.head_end ++ h.body))
  table_nodes cells path p alignments lines t h =
      let columns : ℕ = length alignments in
      let own : Inner TableCell = cells TableCell refl in
      let head : List (ℕ × Item) = row_block TableHead columns (offset p) h.cells h.head_end in
      deeper_nodes Inner 1 (head ++ h.body) (both_nodes Inner head h.body
      (row_nodes Inner TableHead columns (offset p) h.cells h.head_end (cells TableHead refl) own
      (cells_nodes Inner d tokens own (spot (offset p) no_braces) h.cells (spot h.head_end h.after) h.are_cells))
      (rows_nodes Inner d tokens own path (table_so_far columns (most_inserted - inserted columns h.cells) h.after) (drop 1 lines)
      (taking h.body t.left) (cells TableRow refl) h.are_rows))

module _ (d : Document) (At : Place → Type 0) (Inner : ItemBody → Type 0) (P : List (ℕ × Item) → Type 0) (holds : HoldsOfLeaves d At Inner P) where
  abbrev blocks : HoldsOfBlocks d Inner P
  blocks = holds.blocks

  -- a paragraph, a setext heading or a table
  text_by : (path : List Container) (p : Place) (marker : Option Item) (lines : List Place) (t : Taken) (o : Option (List Alignment))
      → headed_table (around d path) p.rest.left ≡ o → At p → IfSome marker (λ x. Inner x.body)
      → MatchOption o (IsPlainText d path (offset p) marker lines t) (λ alignments. IsTable d path p alignments lines t) → P t.items
  text_by path p marker lines t None e i mark (l, are, is) =
      ended_holds d Inner P blocks (offset p) marker l t (underline_first path l.left) mark
      (lines_each Inner d (tokens d Inner P blocks) path (spot (offset p) no_braces) [] lines l tt are) is
  text_by path p marker lines t (Some alignments) e i mark h = holds.table path p alignments lines t i e h

  pub text_holds : (path : List Container) (p : Place) (marker : Option Item) (lines : List Place) (t : Taken) → At p → IfSome marker (λ x. Inner x.body)
      → IsText d path p marker lines t → P t.items
  unfolding IsText
  text_holds path p marker lines t i mark is = text_by path p marker lines t (headed_table (around d path) p.rest.left) refl i mark is

  -- what a kind opens
  pub leaf_holds : (path : List Container) (p : Place) (lines : List Place) (kind : Kind) (o : Opening) → At p → HoldsAtEach At lines
      → OpensAs d path p lines kind o → LeafHolds P o
  unfolding OpensAs OpensRun OpensText
  leaf_holds path p lines Blank o i h e = subst (LeafHolds P) (sym e) tt
  leaf_holds path p lines IndentedCode o i h (items, is, e) =
      subst (LeafHolds P) (sym e) (text_lines d Inner P blocks _ _ IndentCodeBlock _ is.chain items is.lines is.items_are refl tt)
  leaf_holds path p lines (Metadata byte) o i h (items, is, e) =
      subst (LeafHolds P) (sym e) (text_lines d Inner P blocks _ _ (MetadataBlock (metadata_kind byte)) _ is.chain items is.lines is.items_are refl tt)
  leaf_holds path p lines HtmlToEnd o i h (until, found, (items, is, e)) =
      subst (LeafHolds P) (sym e) (html_lines d Inner P blocks _ _ _ is.chain items is.lines is.items_are)
  leaf_holds path p lines HtmlToBlank o i h (items, is, e) =
      subst (LeafHolds P) (sym e) (html_lines d Inner P blocks _ _ _ is.chain items is.lines is.items_are)
  leaf_holds path p lines (ThematicBreak size) o i h e = subst (LeafHolds P) (sym e) (chain_holds d Inner P blocks _ _ Rule [] _ refl refl tt tt)
  leaf_holds path p lines (AtxHeading level) o i h (index, chain, stop, is, e) =
      let start : ℕ = offset (unindented p) in
      let each = heading_each Inner d (tokens d Inner P blocks) (heading_text_at d.text start (level_number level)) index chain stop is in
      subst (LeafHolds P) (sym e)
      (chain_holds d Inner P blocks start stop (HeadingBody level index) chain _ refl refl (given_entry d.names index _ is.named) each)
  leaf_holds path p lines (FencedCode count byte) o i h (items, is, e) =
      let entry = slice_get_within d.names.texts is.info.0 is.names.named is.names.at in
      subst (LeafHolds P) (sym e) (text_lines d Inner P blocks _ _ (FencedCodeBlock is.info) _ is.chain items is.lines is.items_are refl entry)
  leaf_holds path p lines LinkDefinitions o i h (xs, Ended q left, run, e) = subst (LeafHolds P) (sym e) blocks.none
  leaf_holds path p lines LinkDefinitions o i h (xs, FlowsOn q more, run, (t, is, e)) =
      let there = run_left At holds.kept (HoldsAtEach At) (λ line lines h. h.0) (λ line lines h. h.1) (around d path) (unindented p) lines xs (FlowsOn q more)
      (at_unindented At holds.kept p i) h run in
      subst (LeafHolds P) (sym e) (text_holds path q None more t there.0 tt is)
  leaf_holds path p lines Paragraph o i h (t, is, e) = grind (arith, text_holds, at_unindented)

  -- what opens in a sequence
  pub openings : (M : ItemBody → Type 0) → ((checked : Bool) → M (TaskListMarker checked)) → ((body : ItemBody) → M body → Inner body)
      → ((marker : Item) → M marker.body → P ((0, marker) ∷ [])) → HoldsOfOpenings d At M P AnyHead
  openings M task inner mark = grind (arith, leaf_holds, text_holds)
