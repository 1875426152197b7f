-- Only the first item of a leaf block may be a paragraph, and link reference definitions have no items.
use Rattle.std.proofs.Common.{◌≡◌, ℕ, Bool, true, false, List, ◌∷◌, drop, Option, Some, None, MatchOption, IfSome, refl, sym, ap, subst, ◌∙◌, []}
use Rattle.std.proofs.Common.{if◌then◌else◌, true≢false, arith}
use Rattle.first_pass_grammar.proofs.Common.{CowStr, Alignment, HeadingLevel, Item, ItemBody, Place, offset, no_braces, spot, is_markup, is_paragraph_body}
use Rattle.first_pass_grammar.proofs.Common.{begins_paragraph, is_run, LeafBlock, Block, Head, opened, at_rest, footnote_head_at, Kind, Blank, IndentedCode}
use Rattle.first_pass_grammar.proofs.Common.{Metadata, HtmlToEnd, HtmlToBlank, ThematicBreak, AtxHeading, FencedCode, LinkDefinitions, Document, around}
use Rattle.first_pass_grammar.proofs.Common.{TextLines, kind_in, Ended, FlowsOn, is_paragraph, Start, start_at, Continues, Line, Blanks, AtPlace, Anything}
use Rattle.first_pass_grammar.proofs.Common.{OnlyALeaf, TextOf, OnlyMark, Opening, OpensLeaf, OpensText, OpensRun, OpensAs, OpensBlockAt, OpensBy}
use Rattle.first_pass_grammar.proofs.Common.{OpensFootnote, Opens, OpensAt, opening_by, next_is_blank, Level, may_define, IsFirst, headed_table, Taken}
use Rattle.first_pass_grammar.proofs.Common.{IsTable, IsPlainText, IsText, IsUnderlined, plain_text, underline_first, AreEachNode}
use Rattle.first_pass_items.specs.declared.item.ItemBody.TheVariants.{Paragraph as ParagraphBody}
use Rattle.first_pass_grammar.specs.declared.kind.Container.{Container}
use Rattle.first_pass_grammar.specs.Kinds.{Paragraph}
use Rattle.first_pass_grammar.specs.declared.kind.AfterMarker.{AfterMarker}
use Rattle.first_pass_grammar.specs.declared.kind.AfterMarker.TheVariants.{LineEnds}
use Rattle.first_pass_grammar.proofs.Each.EachToken.{AreEach, HoldsOfTokens, children_each, lines_each}
use Rattle.first_pass_grammar.proofs.Each.EachCell.{deeper_nodes, leaves_nodes}
use Rattle.first_pass_grammar.proofs.Names.TokensNamed.{NamesWithin}

abbrev pub IsNoParagraph : ItemBody → Type 0
IsNoParagraph body = is_paragraph_body body ≡ false

-- no item of these is a paragraph
abbrev pub NoParagraph : List (ℕ × Item) → Type 0
NoParagraph items = AreEachNode IsNoParagraph items

-- the first of these items is at the block's own depth, and starts at an offset
abbrev pub BeginsAt : ℕ → List (ℕ × Item) → Type 0
BeginsAt start [] = ⊥
BeginsAt start (x ∷ items) = (x.0 ≡ 0) × (x.1.start ≡ start)

-- each item after the first of a paragraph has a property; link reference definitions have no items
pub record HoldsInBlock (P : ItemBody → Type 0) (b : LeafBlock) : Type 0 where
  pub tokens : begins_paragraph b.items ≡ true → AreEachNode P (drop 1 b.items)
  pub none : is_run b.kind ≡ true → b.items ≡ []

-- after the first item of a paragraph there is no paragraph
abbrev pub FlatBlock : LeafBlock → Type 0
FlatBlock b = HoldsInBlock IsNoParagraph b

-- a block that is a paragraph was read as one, and its node starts where the block does
pub record OwnParagraph (b : LeafBlock) : Type 0 where
  pub kind : begins_paragraph b.items ≡ true → is_paragraph b.kind ≡ true
  pub first : begins_paragraph b.items ≡ true → BeginsAt b.start b.items

-- where blocks continue, the task list item marker before a text has a property; a marker without a text is no
-- paragraph
abbrev pub HoldsOfMarker : (ItemBody → Type 0) → Continues → Type 0
HoldsOfMarker P (AtPlace p (TextOf marker)) = P marker.body
HoldsOfMarker P (AtPlace p (OnlyMark marker blanks)) = IsNoParagraph marker.body
HoldsOfMarker P from = Unit {0}

-- neither is a paragraph
abbrev pub OwnFrom : Continues → Type 0
OwnFrom from = HoldsOfMarker IsNoParagraph from

-- no token of a line is a paragraph
markup_flat : (texts : List CowStr) (body : ItemBody) → is_markup body ≡ true → NamesWithin texts body → IsNoParagraph body
markup_flat texts ParagraphBody h k = absurd (true≢false (sym h))
markup_flat texts body h k = refl

pub tokens_flat : (texts : List CowStr) → HoldsOfTokens texts IsNoParagraph
tokens_flat texts = record { text = λ escaped. refl; soft = refl; hard = λ by_backslash. refl; markup = markup_flat texts }

begins_other : (x : ℕ × Item) (more items : List (ℕ × Item)) → items ≡ x ∷ more → IsNoParagraph x.1.body → begins_paragraph items ≡ true → ⊥
begins_other x more items is other begins = true≢false (sym begins ∙ ap begins_paragraph is ∙ other)

module _ (P : ItemBody → Type 0) where
  -- items of a block that starts at an offset: if they are a paragraph, it starts there, and the other items have a
  -- property
  abbrev HoldsInText : ℕ → List (ℕ × Item) → Type 0
  HoldsInText start items = begins_paragraph items ≡ true → BeginsAt start items × AreEachNode P (drop 1 items)

  other_text : (start : ℕ) (x : ℕ × Item) (more items : List (ℕ × Item)) → items ≡ x ∷ more → IsNoParagraph x.1.body → HoldsInText start items
  other_text start x more items is other begins = absurd (begins_other x more items is other begins)

  -- what opens has this property
  abbrev pub HoldsInOpening : Opening → Type 0
  HoldsInOpening (OpensLeaf (Block b) there left) = HoldsInBlock P b × OwnParagraph b
  HoldsInOpening o = Unit {0}

  text_block : (b : LeafBlock) → b.kind ≡ Paragraph → HoldsInText b.start b.items → HoldsInBlock P b × OwnParagraph b
  text_block b is h = (
    record { tokens = λ begins. (h begins).1; none = λ run. absurd (true≢false (sym run ∙ ap is_run is)) },
    record { kind = λ begins. ap is_paragraph is; first = λ begins. (h begins).0 },
  )

  no_text : (b : LeafBlock) → (begins_paragraph b.items ≡ true → ⊥) → (is_run b.kind ≡ true → b.items ≡ []) → HoldsInBlock P b × OwnParagraph b
  no_text b never none = (
    record { tokens = λ begins. absurd (never begins); none = none },
    record { kind = λ begins. absurd (never begins); first = λ begins. absurd (never begins) },
  )

  other_block : (b : LeafBlock) (x : ℕ × Item) (more : List (ℕ × Item)) → is_run b.kind ≡ false → b.items ≡ x ∷ more → IsNoParagraph x.1.body
      → HoldsInBlock P b × OwnParagraph b
  other_block b x more other is own = no_text b (begins_other x more b.items is own) (λ run. absurd (true≢false (sym run ∙ other)))

  abbrev HoldsOfMark : Option Item → Type 0
  HoldsOfMark marker = IfSome marker (λ x. P x.body)

module _ (P : ItemBody → Type 0) (d : Document) (holds : HoldsOfTokens d.names.texts P) where
  ended_holds : (start : ℕ) (marker : Option Item) (l : TextLines) (t : Taken) (o : Option (ℕ × HeadingLevel)) → HoldsOfMark P marker → AreEach P l.chain
      → MatchOption o (t ≡ plain_text d start marker l) (λ underline. IsUnderlined d start marker l underline.1 t) → HoldsInText P start t.items
  ended_holds start marker l t None mark h e = grind (arith, deeper_nodes, leaves_nodes, children_each)
  ended_holds start marker l t (Some underline) mark h (index, named, e) = other_text P start _ _ t.items (ap (λ (z : Taken). z.items) e) refl

  text_by : (path : List Container) (p : Place) (marker : Option Item) (lines : List Place) (t : Taken) (o : Option (List Alignment)) → HoldsOfMark P marker
      → MatchOption o (IsPlainText d path (offset p) marker lines t) (λ alignments. IsTable d path p alignments lines t)
      → HoldsInText P (offset p) t.items
  text_by path p marker lines t None mark (l, are, is) =
      ended_holds (offset p) marker l t (underline_first path l.left) mark (lines_each P d holds path (spot (offset p) no_braces) [] lines l tt are) is
  text_by path p marker lines t (Some alignments) mark h = other_text P (offset p) _ _ t.items h.items_are refl

  pub text_holds : (path : List Container) (p : Place) (marker : Option Item) (lines : List Place) (t : Taken) → IfSome marker (λ x. P x.body)
      → IsText d path p marker lines t → begins_paragraph t.items ≡ true → BeginsAt (offset p) t.items × AreEachNode P (drop 1 t.items)
  unfolding IsText
  text_holds path p marker lines t mark is = text_by path p marker lines t (headed_table (around d path) p.rest.left) mark is

  opens_text : (path : List Container) (p : Place) (lines : List Place) (marker : Option Item) (o : Opening) → HoldsOfMark P marker
      → OpensText d path p lines marker o → HoldsInOpening P o
  unfolding OpensText
  opens_text path p lines marker o mark (t, is, e) = grind (arith, text_block, text_holds)

  opens_run : (path : List Container) (p : Place) (lines : List Place) (o : Opening) → OpensRun d path p lines o → HoldsInOpening P o
  unfolding OpensRun
  opens_run path p lines o (xs, Ended q left, run, e) = subst (HoldsInOpening P) (sym e) (no_text P _ (λ begins. true≢false (sym begins)) (λ run. refl))
  opens_run path p lines o (xs, FlowsOn q more, run, (t, is, e)) = grind (arith, text_block, text_holds)

  -- what a kind opens
  pub kind_holds : (path : List Container) (p : Place) (lines : List Place) (kind : Kind) (o : Opening) → OpensAs d path p lines kind o → HoldsInOpening P o
  unfolding OpensAs
  kind_holds path p lines Blank o e = subst (HoldsInOpening P) (sym e) tt
  kind_holds path p lines IndentedCode o (items, is, e) = subst (HoldsInOpening P) (sym e) (other_block P _ _ _ refl is.items_are refl)
  kind_holds path p lines (Metadata byte) o (items, is, e) = subst (HoldsInOpening P) (sym e) (other_block P _ _ _ refl is.items_are refl)
  kind_holds path p lines HtmlToEnd o (until, found, (items, is, e)) = subst (HoldsInOpening P) (sym e) (other_block P _ _ _ refl is.items_are refl)
  kind_holds path p lines HtmlToBlank o (items, is, e) = subst (HoldsInOpening P) (sym e) (other_block P _ _ _ refl is.items_are refl)
  kind_holds path p lines (ThematicBreak size) o e = subst (HoldsInOpening P) (sym e) (other_block P _ _ _ refl refl refl)
  kind_holds path p lines (AtxHeading level) o (index, chain, stop, is, e) = subst (HoldsInOpening P) (sym e) (other_block P _ _ _ refl refl refl)
  kind_holds path p lines (FencedCode count byte) o (items, is, e) = subst (HoldsInOpening P) (sym e) (other_block P _ _ _ refl is.items_are refl)
  kind_holds path p lines LinkDefinitions o opens = opens_run path p lines o opens
  kind_holds path p lines Paragraph o opens = opens_text path p lines None o tt opens

  opens_block : (path : List Container) (p : Place) (lines : List Place) (o : Opening) → OpensBlockAt d path p lines o → HoldsInOpening P o
  opens_block path p lines o (k, is, opens) = kind_holds path p lines (kind_in (around d path) p k) o opens

  -- a container that opens is no leaf block
  unless_opens : (t : Bool) (o o' : Opening) → HoldsInOpening P o → HoldsInOpening P o' → HoldsInOpening P (if t then o else o')
  unless_opens true o o' h k = h
  unless_opens false o o' h k = k

  container_holds : (path : List Container) (head : Head) (inside : Place) (lines : List Place) (after : AfterMarker)
      → HoldsInOpening P (opening_by d path head inside lines after)
  container_holds path head inside lines (LineEnds marker) = unless_opens (next_is_blank (opened head.opener ∷ path) lines) _ _ tt tt
  container_holds path head inside lines after = tt

  opens_by : (path : List Container) (p : Place) (lines : List Place) (s : Option Start) (o : Opening) → OpensBy d path p lines s o → HoldsInOpening P o
  unfolding OpensBy
  opens_by path p lines (Some s) o e = subst (HoldsInOpening P) (sym e) (container_holds path s.head (at_rest p s.rest) lines s.after)
  opens_by path p lines None o opens = opens_block path p lines o opens

  opens_head : (l : Level) (p : Place) (lines : List Place) (head : Option (ℕ × List ℕ)) (o : Opening)
      → MatchOption head (OpensBy d l.path p lines (start_at d.options (may_define d l) p) o) (λ h. OpensFootnote d p lines h o) → HoldsInOpening P o
  unfolding OpensFootnote
  opens_head l p lines None o opens = opens_by l.path p lines (start_at d.options (may_define d l) p) o opens
  opens_head l p lines (Some (size, label)) o (index, named, e) = subst (HoldsInOpening P) (sym e) tt

  opens_any : (l : Level) (p : Place) (lines : List Place) (o : Opening) → Opens d l p lines o → HoldsInOpening P o
  opens_any l p lines o opens = opens_head l p lines (footnote_head_at (around d l.path) p) o opens

  -- what opens where blocks continue
  opens_at : (l : Level) (from : Continues) (p : Place) (lines : List Place) (o : Opening) → HoldsOfMarker P from → OpensAt d l from p lines o
      → HoldsInOpening P o
  opens_at l Line p lines o mark opens = opens_any l p lines o opens
  opens_at l (Blanks e) p lines o mark opens = opens_any l p lines o opens
  opens_at l (AtPlace q Anything) p lines o mark opens = opens_any l p lines o opens
  opens_at l (AtPlace q OnlyALeaf) p lines o mark opens = opens_block l.path p lines o opens
  opens_at l (AtPlace q (TextOf marker)) p lines o mark opens = opens_text l.path p lines (Some marker) o mark opens
  opens_at l (AtPlace q (OnlyMark marker blanks)) p lines o mark e = subst (HoldsInOpening P) (sym e) (other_block P _ _ _ refl refl mark)

  -- a property of each token of a text holds for each item after the first of a paragraph that opens
  pub opened_holds : (l : Level) (from : Continues) (lines : List Place) (b : LeafBlock) (there : Continues) (left : List Place) → HoldsOfMarker P from
      → IsFirst d l from lines (OpensLeaf (Block b) there left) → HoldsInBlock P b × OwnParagraph b
  opened_holds l from lines b there left mark first = opens_at l from first.place first.following (OpensLeaf (Block b) there left) mark first.opens

-- The first block of a sequence is flat, and its paragraph starts where it does.
pub opened_own : (d : Document) (l : Level) (from : Continues) (lines : List Place) (b : LeafBlock) (there : Continues) (left : List Place) → OwnFrom from
    → IsFirst d l from lines (OpensLeaf (Block b) there left) → FlatBlock b × OwnParagraph b
opened_own d l from lines b there left mark first = opened_holds IsNoParagraph d (tokens_flat d.names.texts) l from lines b there left mark first
