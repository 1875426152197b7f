-- No leaf block begins with a possible title; one that begins with a paragraph has no part of a table. The items of a text
-- have a first one, and if that is no paragraph, none of them is one.
use Rattle.std.proofs.Common.{◌≡◌, ℕ, Bool, true, false, List, [], ◌∷◌, drop, Option, Some, None, MatchOption, IfSome, refl, sym, ap, subst, ◌-◌, ◌++◌, length}
use Rattle.std.proofs.Common.{true≢false, arith}
use Rattle.first_pass_grammar.proofs.Common.{Alignment, HeadingLevel, Item, ItemBody, MaybeDefinitionListTitle, Table, TableHead, Options, Forest, Place}
use Rattle.first_pass_grammar.proofs.Common.{offset, line_end, start_of, begins_paragraph, is_paragraph_body, BlankLine, Block, leaf_block, lines_from, Kind}
use Rattle.first_pass_grammar.proofs.Common.{Blank, IndentedCode, Metadata, HtmlToEnd, HtmlToBlank, ThematicBreak, AtxHeading, FencedCode, LinkDefinitions}
use Rattle.first_pass_grammar.proofs.Common.{unindented, Document, document, around, TextLines, Ended, FlowsOn, Names, Line, Opening, OpensLeaf, OpensNode}
use Rattle.first_pass_grammar.proofs.Common.{OpensText, OpensRun, OpensAs, headed_table, Taken, IsTable, taking, TableSoFar, table_so_far, most_inserted}
use Rattle.first_pass_grammar.proofs.Common.{inserted, row_block, IsPlainText, IsText, IsUnderlined, plain_text, underline_first, heading_children}
use Rattle.first_pass_grammar.proofs.Common.{ShowsNothing, AreEachNode, may_be_title, no_braces, spot, leaves, is_task_marker}
use Rattle.first_pass_containers.proofs.Common.{path_of, Container, extends_none, Paragraph, IsSilentFirst, task_shows, tokens_show, text_silent, kind_holds}
use Rattle.first_pass_containers.proofs.Common.{text_holds, IsNoParagraph, NoParagraph, tokens_flat, both_nodes, leaves_nodes, block_nodes, row_nodes}
use Rattle.first_pass_containers.proofs.Common.{cells_nodes, rows_nodes}
use Rattle.first_pass_items.specs.declared.item.ItemBody.TheVariants.{Paragraph as ParagraphBody, Heading as HeadingBody}
use Rattle.first_pass_order.specs.LeafBlocks.{AddsKind}
use Rattle.first_pass_grammar.proofs.Each.EachToken.{AreEach, heading_children_each, lines_each}

abbrev is_possible : ItemBody → Bool
is_possible MaybeDefinitionListTitle = true
is_possible b = false

-- a task list item marker is no paragraph
pub mark_by : (b : ItemBody) → is_task_marker b ≡ true → is_paragraph_body b ≡ false
mark_by ParagraphBody h = cc
mark_by b h = refl

-- Items with a first one, which is no possible title. If it is no paragraph, none is one.
pub record IsFlatText (items : List (ℕ × Item)) : Type 0 where
  pub first : ℕ × Item
  pub more : List (ℕ × Item)
  pub is : items ≡ first ∷ more
  pub untitled : is_possible first.1.body ≡ false
  pub flat : begins_paragraph items ≡ false → NoParagraph items

table_flat : (d : Document) (path : List Container) (p : Place) (alignments : List Alignment) (lines : List Place) (t : Taken)
    → IsTable d path p alignments lines t → IsFlatText t.items
table_flat d path p alignments lines t h =
    let columns : ℕ = length alignments in
    let head : List (ℕ × Item) = row_block TableHead columns (offset p) h.cells h.head_end in
    let P : ItemBody → Type 0 = IsNoParagraph in
    let holds = tokens_flat d.names.texts in
    let cells = cells_nodes P d holds refl (spot (offset p) no_braces) h.cells (spot h.head_end h.after) h.are_cells in
    let table : TableSoFar = table_so_far columns (most_inserted - inserted columns h.cells) h.after in
    let rows = rows_nodes P d holds refl path table (drop 1 lines) (taking h.body t.left) refl h.are_rows in
    let kids = both_nodes P head h.body (row_nodes P TableHead columns (offset p) h.cells h.head_end refl refl cells) rows in
    record {
      first = _;
      more = _;
      is = h.items_are;
      untitled = refl;
      flat = λ other. subst NoParagraph (sym h.items_are)
          (block_nodes P (record { start = offset p; «end» = start_of (length d.text) t.left; body = Table h.index }) (head ++ h.body) refl kids);
    }

-- a task list item marker before a text, if there is one
abbrev pub IsTaskMark : Option Item → Type 0
IsTaskMark marker = IfSome marker (λ x. is_task_marker x.body ≡ true)

pub mark_has : (P : ItemBody → Type 0) → ((b : ItemBody) → is_task_marker b ≡ true → P b) → (marker : Option Item) → IsTaskMark marker
    → IfSome marker (λ x. P x.body)
mark_has P own None mark = tt
mark_has P own (Some x) mark = own x.body mark

ended_flat : (d : Document) (start : ℕ) (marker : Option Item) (l : TextLines) (t : Taken) (o : Option (ℕ × HeadingLevel)) → IsTaskMark marker
    → AreEach IsNoParagraph l.chain → MatchOption o (t ≡ plain_text d start marker l) (λ underline. IsUnderlined d start marker l underline.1 t)
    → IsFlatText t.items
ended_flat d start marker l t None mark h e = grind arith
ended_flat d start marker l t (Some underline) mark h (index, named, e) =
    let chain : List Item = heading_children d start marker l in
    record {
      first = _;
      more = _;
      is = ap (λ (z : Taken). z.items) e;
      untitled = refl;
      flat = λ other. subst (λ (z : Taken). NoParagraph z.items) (sym e)
          (block_nodes IsNoParagraph
          (record { start = start; «end» = start_of (length d.text) (drop 1 l.left); body = HeadingBody underline.1 index }) (leaves chain) refl
          (leaves_nodes IsNoParagraph chain (heading_children_each IsNoParagraph (λ escaped. refl) d start marker l
          (mark_has IsNoParagraph mark_by marker mark) h)));
    }

text_by : (d : Document) (path : List Container) (p : Place) (marker : Option Item) (lines : List Place) (t : Taken) (o : Option (List Alignment))
    → IsTaskMark marker → MatchOption o (IsPlainText d path (offset p) marker lines t) (λ alignments. IsTable d path p alignments lines t) → IsFlatText t.items
text_by d path p marker lines t None mark (l, are, is) =
    ended_flat d (offset p) marker l t (underline_first path l.left) mark
    (lines_each IsNoParagraph d (tokens_flat d.names.texts) path (spot (offset p) no_braces) [] lines l tt are) is
text_by d path p marker lines t (Some alignments) mark h = table_flat d path p alignments lines t h

pub text_flat : (d : Document) (path : List Container) (p : Place) (marker : Option Item) (lines : List Place) (t : Taken) → IsTaskMark marker
    → IsText d path p marker lines t → IsFlatText t.items
unfolding IsText
text_flat d path p marker lines t mark is = text_by d path p marker lines t (headed_table (around d path) p.rest.left) mark is

-- the first of these items is no possible title
abbrev pub IsUntitled : List (ℕ × Item) → Type 0
IsUntitled [] = Unit {0}
IsUntitled (x ∷ items) = is_possible x.1.body ≡ false

abbrev OpensUntitled : Opening → Type 0
OpensUntitled (OpensLeaf BlankLine there left) = Unit {0}
OpensUntitled (OpensLeaf (Block b) there left) = IsUntitled b.items
OpensUntitled (OpensNode head inside following) = Unit {0}

untitled_is : (x : ℕ × Item) (more items : List (ℕ × Item)) → items ≡ x ∷ more → is_possible x.1.body ≡ false → IsUntitled items
untitled_is x more items is own = subst IsUntitled (sym is) own

module _ (d : Document) where
  -- a paragraph, heading or table
  text_untitled : (path : List Container) (p : Place) (marker : Option Item) (lines : List Place) (t : Taken) → IsTaskMark marker
      → IsText d path p marker lines t → IsUntitled t.items
  text_untitled path p marker lines t mark is = grind (arith, text_flat, untitled_is)

  opens_text : (path : List Container) (p : Place) (lines : List Place) (o : Opening) → OpensText d path p lines None o → OpensUntitled o
  unfolding OpensText
  opens_text path p lines o (t, is, e) = subst OpensUntitled (sym e) (text_untitled path (unindented p) None lines t tt is)

  opens_run : (path : List Container) (p : Place) (lines : List Place) (o : Opening) → OpensRun d path p lines o → OpensUntitled o
  unfolding OpensRun
  opens_run path p lines o (xs, Ended q left, run, e) = subst OpensUntitled (sym e) tt
  opens_run path p lines o (xs, FlowsOn q more, run, (t, is, e)) = subst OpensUntitled (sym e) (text_untitled path q None more t tt is)

  kind_untitled : (path : List Container) (p : Place) (lines : List Place) (kind : Kind) (o : Opening) → OpensAs d path p lines kind o → OpensUntitled o
  unfolding OpensAs
  kind_untitled path p lines Blank o e = subst OpensUntitled (sym e) tt
  kind_untitled path p lines IndentedCode o (items, is, e) = subst OpensUntitled (sym e) (untitled_is _ _ items is.items_are refl)
  kind_untitled path p lines (Metadata byte) o (items, is, e) = subst OpensUntitled (sym e) (untitled_is _ _ items is.items_are refl)
  kind_untitled path p lines HtmlToEnd o (until, found, (items, is, e)) = subst OpensUntitled (sym e) (untitled_is _ _ items is.items_are refl)
  kind_untitled path p lines HtmlToBlank o (items, is, e) = subst OpensUntitled (sym e) (untitled_is _ _ items is.items_are refl)
  kind_untitled path p lines (ThematicBreak size) o e = subst OpensUntitled (sym e) refl
  kind_untitled path p lines (AtxHeading level) o (index, chain, stop, is, e) = subst OpensUntitled (sym e) refl
  kind_untitled path p lines (FencedCode count byte) o (items, is, e) = subst OpensUntitled (sym e) (untitled_is _ _ items is.items_are refl)
  kind_untitled path p lines LinkDefinitions o opens = opens_run path p lines o opens
  kind_untitled path p lines Paragraph o opens = opens_text path p lines o opens

silent_by : (x : ℕ × Item) (items : List (ℕ × Item)) (b : ItemBody) → x.1.body ≡ b → is_possible b ≡ false
    → (begins_paragraph (x ∷ items) ≡ true → AreEachNode ShowsNothing (x ∷ items)) → may_be_title b ≡ true → AreEachNode ShowsNothing (x ∷ items)
silent_by x items ParagraphBody is other h may = h (ap (λ b. begins_paragraph ((x.0, record { start = x.1.start; «end» = x.1.«end»; body = b }) ∷ items)) is)
silent_by x items MaybeDefinitionListTitle is other h may = absurd (true≢false other)
silent_by x items b is other h may = absurd (true≢false (sym may))

silent_first : (items : List (ℕ × Item)) → IsUntitled items → (begins_paragraph items ≡ true → AreEachNode ShowsNothing (drop 1 items)) → IsSilentFirst items
silent_first [] other h = tt
silent_first (x ∷ items) other h = silent_by x items x.1.body refl other (λ begins. text_silent (x ∷ items) begins h)

-- the same after a task list item marker or none
pub text_silent_first : (d : Document) (path : List Container) (p : Place) (marker : Option Item) (lines : List Place) (t : Taken)
    → IsTaskMark marker → IsText d path p marker lines t → IsSilentFirst t.items
text_silent_first d path p marker lines t mark is =
    silent_first t.items (text_untitled d path p marker lines t mark is)
    (λ begins. (text_holds ShowsNothing d (tokens_show d.names.texts) path p marker lines t (mark_has ShowsNothing task_shows marker mark) is begins).1)

-- a leaf block of a kind that was added
pub kind_silent : (text : List ℕ) (options : Options) (names : Names) (p : Place) (kind : Kind) (gap : Bool) (old new : Forest Item) (next : ℕ)
    → (a : AddsKind (document text options names) p kind gap old new next) → IsSilentFirst a.items
kind_silent text options names p kind gap old new next a =
    let d : Document = document text options names in
    let o : Opening = OpensLeaf (leaf_block kind p a.items gap) Line (lines_from text next) in
    let opens = a.opens names (extends_none names) in
    silent_first a.items (kind_untitled d (path_of options old) p (lines_from text (line_end p)) kind o opens)
    (kind_holds ShowsNothing d (tokens_show names.texts) (path_of options old) p (lines_from text (line_end p)) kind o opens).0.tokens
