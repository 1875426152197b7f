-- The chains of each leaf block are in order, by how it begins.
use Rattle.std.proofs.Common.{◌≡◌, inl, inr, ℕ, ◌+◌, false, List, [], ◌∷◌, length, drop, Option, Some, None, MatchOption, IsUtf8}
use Rattle.std.proofs.Common.{IsCharBoundary, refl, sym, ap, subst, ◌∙◌, arith}
use Rattle.first_pass_grammar.proofs.Common.{cond_both, Alignment, HeadingLevel, Item, ItemBody, Rule, IndentCodeBlock, MetadataBlock, HtmlBlock}
use Rattle.first_pass_grammar.proofs.Common.{FencedCodeBlock}
use Rattle.first_pass_grammar.proofs.Common.{Place, Rest, indent, offset, line_end, IsPlaceOf, atx_level, level_number, no_braces, spot, lines_from}
use Rattle.first_pass_grammar.proofs.Common.{all_taken, unindented}
use Rattle.first_pass_grammar.proofs.Common.{columns_line_end, at_rest, front, line_len, Kind, Blank, IndentedCode, Metadata, HtmlToEnd, HtmlToBlank}
use Rattle.first_pass_grammar.proofs.Common.{ThematicBreak, AtxHeading, FencedCode, LinkDefinitions, IsKind, Document, around, block_with, heading_text_at}
use Rattle.first_pass_grammar.proofs.Common.{TextLines}
use Rattle.first_pass_grammar.proofs.Common.{AreTextLines, LinkEntry, Beyond, Ended, FlowsOn, IsRun, lines_beyond, Context, kind_in, headed_table, Taken}
use Rattle.first_pass_grammar.proofs.Common.{IsTable, IsPlainText}
use Rattle.first_pass_grammar.proofs.Common.{IsText, IsUnderlined, plain_text, text_children, heading_children, underline_first, Opening, OpensAs}
use Rattle.first_pass_grammar.proofs.Common.{OpensRun, OpensText}
use Rattle.first_pass_grammar.proofs.Common.{start_of, metadata_kind}
use Rattle.first_pass_items.specs.declared.item.ItemBody.TheVariants.{Paragraph as ParagraphBody, Heading as HeadingBody}
use Rattle.first_pass_grammar.specs.declared.kind.Container.{Container}
use Rattle.first_pass_grammar.specs.Kinds.{Paragraph}
use Rattle.first_pass_grammar.proofs.Each.EachOpening.{LeafHolds}
use Rattle.first_pass_grammar.proofs.Sequences.LinesLeft.{beyond_left}
use Rattle.first_pass_kinds.proofs.KindLemmas.{Says, kind_says}
use Rattle.first_pass_lines.proofs.LineFacts.{first_line}
use Rattle.first_pass_leaves.proofs.OrderHeading.{heading_text_boundary}
use Rattle.first_pass_open.specs.Between.{line_end_at, MarkerBetween}
use Rattle.first_pass_open.proofs.PlaceLemmas.{all_keep, place_end, text_place}
use Rattle.first_pass_content.specs.Chains.{has_chain}
use Rattle.first_pass_chains.proofs.NodeChains.{chain_block, leaves_chains, chains_below}
use Rattle.first_pass_chains.proofs.RowChains.{IsChained}
use Rattle.first_pass_chains.proofs.TableChains.{AreLater, later_next, table_chains}
use Rattle.first_pass_chains.proofs.TextChains.{InChain, paragraph_chain, setext_chain, atx_chain}

-- a place of the text, and the lines after its line
abbrev pub Reads : List ℕ → Place → List Place → Type 0
Reads text p lines = IsPlaceOf text p × (lines ≡ lines_from text (line_end p))

module _ (text : List ℕ) (utf8 : IsUtf8 text) where
  pub reads_later : (p : Place) (lines : List Place) → Reads text p lines → AreLater text lines
  reads_later p lines (place, is) = (line_end p, place_end text p utf8 place, is)

  -- after the indentation
  pub reads_unindented : (p : Place) (lines : List Place) → Reads text p lines → Reads text (unindented p) lines
  reads_unindented p lines (place, is) =
      (all_keep text p.line p.rest utf8 place, is ∙ ap (lines_from text) (sym (columns_line_end (indent p.rest) p)))

  -- at the start of a line's text, whichever containers the line continues
  pub reads_front : (path : List Container) (line : Place) (lines : List Place) → AreLater text (line ∷ lines)
      → Reads text (unindented (at_rest line (front path line.rest))) lines
  reads_front path line lines (at, boundary, is) =
      let first = first_line text at line lines is in
      let there = text_place text at path utf8 boundary in
      subst (λ (l : Place). Reads text (unindented (at_rest l (front path l.rest))) lines) (sym first.1)
      (there.0, first.2 ∙ ap (lines_from text) (sym there.1))

-- a block without a chain, of any tokens
raw_chained : (text : List ℕ) (start stop : ℕ) (body : ItemBody) (chain : List Item) (items : List (ℕ × Item)) → items ≡ block_with start stop body chain
    → has_chain body ≡ false → IsChained text items
raw_chained text start stop body chain items is none =
    subst (IsChained text) (sym is) (chains_below text (record { start = start; «end» = stop; body = body }) _ none (leaves_chains text chain), omega arith)

-- a block of the tokens of a chain
block_chained : (text : List ℕ) (start stop : ℕ) (body : ItemBody) (chain : List Item) (items : List (ℕ × Item)) → items ≡ block_with start stop body chain
    → InChain text chain → IsChained text items
block_chained text start stop body chain items is c =
    subst (IsChained text) (sym is) (chain_block text start stop c.from c.to body chain c.order c.follows, omega arith)

-- the level of an ATX heading
abbrev HasLevel : Rest → Kind → Type 0
HasLevel r (AtxHeading level) = atx_level (all_taken r).left ≡ Some level
HasLevel r _ = Unit {0}

says_level : (r : Rest) (kind : Kind) → Says r kind → HasLevel r kind
says_level r (AtxHeading level) h = h
says_level r _ h = tt

kind_level : (around : Context) (p : Place) (kind : Kind) → HasLevel p.rest kind → HasLevel p.rest (kind_in around p kind)
kind_level around p Paragraph h = cond_both _ LinkDefinitions Paragraph (HasLevel p.rest) (λ b. tt) (λ b. tt)
kind_level around p kind h = h

module _ (d : Document) (utf8 : IsUtf8 d.text) where
  -- a setext heading or a paragraph
  module _ (path : List Container) (start from : ℕ) (marker : Option Item) (lines : List Place) (l : TextLines) (starts : IsCharBoundary d.text start)
      (stands : MarkerBetween d.text from start marker) (is : lines ≡ lines_from d.text (line_end_at d.text start))
      (are : AreTextLines d path (spot start no_braces) [] lines l) where
    ended_chained : (t : Taken) (o : Option (ℕ × HeadingLevel))
        → MatchOption o (t ≡ plain_text d start marker l) (λ underline. IsUnderlined d start marker l underline.1 t) → IsChained d.text t.items
    ended_chained t None e =
        block_chained d.text start (start_of (length d.text) l.left) ParagraphBody (text_children marker l) t.items (ap (λ (z : Taken). z.items) e)
        (paragraph_chain d path start from marker l utf8 starts stands lines is are)
    ended_chained t (Some underline) (index, named, e) =
        block_chained d.text start (start_of (length d.text) (drop 1 l.left)) (HeadingBody underline.1 index) (heading_children d start marker l) t.items
        (ap (λ (z : Taken). z.items) e) (setext_chain d path start from marker l utf8 starts stands lines is are)

  -- a paragraph, a setext heading or a table
  text_by : (path : List Container) (p : Place) (from : ℕ) (marker : Option Item) (lines : List Place) (t : Taken) (o : Option (List Alignment))
      → Reads d.text p lines → MarkerBetween d.text from (offset p) marker
      → MatchOption o (IsPlainText d path (offset p) marker lines t) (λ alignments. IsTable d path p alignments lines t) → IsChained d.text t.items
  text_by path p from marker lines t None (place, is) stands (l, are, ended) =
      let ends : line_end p ≡ line_end_at d.text (offset p) = ap (λ bs. offset p + line_len bs) place.left in
      ended_chained path (offset p) from marker lines l place.boundary stands (is ∙ ap (lines_from d.text) ends) are t (underline_first path l.left) ended
  text_by path p from marker lines t (Some alignments) reads stands table =
      table_chains d utf8 path p alignments lines t reads.0 (reads_later d.text utf8 p lines reads) table

  pub text_chained : (path : List Container) (p : Place) (from : ℕ) (marker : Option Item) (lines : List Place) (t : Taken)
      → Reads d.text p lines → MarkerBetween d.text from (offset p) marker → IsText d path p marker lines t → IsChained d.text t.items
  unfolding IsText
  text_chained path p from marker lines t reads stands is = text_by path p from marker lines t (headed_table (around d path) p.rest.left) reads stands is

  -- the text after a run of definitions
  run_reads : (around : Context) (p : Place) (lines : List Place) (xs : List LinkEntry) (q : Place) (more : List Place) → Reads d.text p lines
      → IsRun around p lines xs (FlowsOn q more) → Reads d.text q more
  unfolding IsRun
  run_reads around p lines [] q more reads (none, e) =
      let place : q ≡ p = ap flow_place e in
      let left : more ≡ lines = ap flow_lines e in
      subst (λ (z : Place). Reads d.text z more) (sym place) (subst (Reads d.text p) (sym left) reads)
    where
      flow_place : Beyond → Place
      flow_place (FlowsOn a b) = a
      flow_place (Ended a b) = a

      flow_lines : Beyond → List Place
      flow_lines (FlowsOn a b) = b
      flow_lines (Ended a b) = b
  run_reads around p lines (x ∷ xs) q more reads (at, inl (stops, last, e)) = absurd cc
  run_reads around p lines (x ∷ xs) q more reads (at, inr (line, left, is, on, further)) =
      let beyond : AreLater d.text (lines_beyond x.«end» lines) =
      beyond_left (AreLater d.text) (later_next d.text utf8) x.«end» lines (reads_later d.text utf8 p lines reads) in
      run_reads around (unindented (at_rest line (front around.path line.rest))) left xs q more
      (reads_front d.text utf8 around.path line left (subst (AreLater d.text) is beyond)) further

  -- what a kind opens
  pub leaf_chained : (path : List Container) (p : Place) (lines : List Place) (kind : Kind) (o : Opening) → Reads d.text p lines → HasLevel p.rest kind
      → OpensAs d path p lines kind o → LeafHolds (IsChained d.text) o
  unfolding OpensAs OpensRun OpensText
  leaf_chained path p lines Blank o reads level e = subst (LeafHolds (IsChained d.text)) (sym e) tt
  leaf_chained path p lines IndentedCode o reads level (items, is, e) =
      subst (LeafHolds (IsChained d.text)) (sym e) (raw_chained d.text _ _ IndentCodeBlock is.chain items is.items_are refl)
  leaf_chained path p lines (Metadata byte) o reads level (items, is, e) =
      subst (LeafHolds (IsChained d.text)) (sym e) (raw_chained d.text _ _ (MetadataBlock (metadata_kind byte)) is.chain items is.items_are refl)
  leaf_chained path p lines HtmlToEnd o reads level (until, found, (items, is, e)) =
      subst (LeafHolds (IsChained d.text)) (sym e) (raw_chained d.text _ _ HtmlBlock is.chain items is.items_are refl)
  leaf_chained path p lines HtmlToBlank o reads level (items, is, e) =
      subst (LeafHolds (IsChained d.text)) (sym e) (raw_chained d.text _ _ HtmlBlock is.chain items is.items_are refl)
  leaf_chained path p lines (ThematicBreak size) o reads level e =
      subst (LeafHolds (IsChained d.text)) (sym e) (raw_chained d.text (offset (unindented p)) (offset (unindented p) + size) Rule [] _ refl refl)
  leaf_chained path p lines (AtxHeading level) o reads atx (index, chain, stop, is, e) =
      let there = reads_unindented d.text utf8 p lines reads in
      let start : ℕ = offset (unindented p) in
      let at : atx_level (drop start d.text) ≡ Some level = ap atx_level (sym there.0.left) ∙ atx in
      let begins = heading_text_boundary d.text start level utf8 there.0.boundary at in
      subst (LeafHolds (IsChained d.text)) (sym e)
      (block_chained d.text start stop (HeadingBody level index) chain _ refl
      (atx_chain d (heading_text_at d.text start (level_number level)) index chain stop is utf8 begins))
  leaf_chained path p lines (FencedCode count byte) o reads level (items, is, e) =
      subst (LeafHolds (IsChained d.text)) (sym e) (raw_chained d.text _ _ (FencedCodeBlock is.info) is.chain items is.items_are refl)
  leaf_chained path p lines LinkDefinitions o reads level (xs, Ended q left, run, e) = subst (LeafHolds (IsChained d.text)) (sym e) (tt, tt)
  leaf_chained path p lines LinkDefinitions o reads level (xs, FlowsOn q more, run, (t, is, e)) =
      let there = run_reads (around d path) (unindented p) lines xs q more (reads_unindented d.text utf8 p lines reads) run in
      subst (LeafHolds (IsChained d.text)) (sym e) (text_chained path q (offset q) None more t there (omega arith) is)
  leaf_chained path p lines Paragraph o reads level (t, is, e) =
      subst (LeafHolds (IsChained d.text)) (sym e)
      (text_chained path (unindented p) (offset (unindented p)) None lines t (reads_unindented d.text utf8 p lines reads) (omega arith) is)

  pub kind_chained : (path : List Container) (p : Place) (lines : List Place) (kind : Kind) (o : Opening) → Reads d.text p lines → IsKind d.options p.rest kind
      → OpensAs d path p lines (kind_in (around d path) p kind) o → LeafHolds (IsChained d.text) o
  kind_chained path p lines kind o reads is opens =
      leaf_chained path p lines (kind_in (around d path) p kind) o reads
      (kind_level (around d path) p kind (says_level p.rest kind (kind_says d.options p.rest kind is))) opens
