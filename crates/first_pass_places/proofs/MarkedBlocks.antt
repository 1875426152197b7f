-- In a derived sequence, the first byte of each fenced code block that starts on a character boundary is ASCII. So is
-- the second byte of each footnote definition, the `^`. The index of each footnote definition names its label.
use Rattle.std.proofs.Common.{◌≡◌, ℕ, ◌+◌, List, [], ◌∷◌, Option, Some, None, MatchOption, arith, unwrap_or, IsCharBoundary, inl, inr, refl, sym, ap, subst}
use Rattle.std.proofs.Common.{◌∙◌, option_map}
use Rattle.first_pass_grammar.proofs.Common.{text_of, CowStr, Alignment, HeadingLevel, Item, ItemBody, Options, Rest, Place, offset, lines_at}
use Rattle.first_pass_grammar.proofs.Common.{code_fence, begins_footnote_mark, nothing, Opener, FootnoteMarker, Head, label_of, Context}
use Rattle.first_pass_grammar.proofs.Common.{footnote_columns, Tables, Derives, footnote_head_at, footnote_prefix, NamesLabel, label_bytes, Kind, Blank}
use Rattle.first_pass_grammar.proofs.Common.{IndentedCode, Metadata, HtmlToEnd, HtmlToBlank, ThematicBreak, AtxHeading, FencedCode, LinkDefinitions}
use Rattle.first_pass_grammar.proofs.Common.{all_taken, unindented, heading_or, rule_or, fence_or, first_kind, IsKindBy, IsKind, Document, around}
use Rattle.first_pass_grammar.proofs.Common.{TextLines, kind_in, Ended, FlowsOn, text_named, Line, Opening, OpensText, OpensRun, OpensAs, level, Lines}
use Rattle.first_pass_grammar.proofs.Common.{headed_table, Taken, IsTable, IsPlainText, IsText, IsUnderlined, plain_text, underline_first, CowIndex}
use Rattle.first_pass_grammar.specs.declared.kind.Container.{Container}
use Rattle.first_pass_grammar.specs.Kinds.{Paragraph}
use Rattle.first_pass_grammar.proofs.Sequences.LinesLeft.{lines_are_at}
use Rattle.first_pass_grammar.proofs.Sequences.PlacesKept.{IsAt, at_unindented, at_kept}
use Rattle.first_pass_places.specs.NamePlaces.{HasWholeStart}
use Rattle.first_pass_places.specs.RangeEnds.{IsAsciiAt}
use Rattle.first_pass_places.proofs.FootnotePlaces.{head_begins, head_here}
use Rattle.first_pass_places.proofs.RangeBoundaries.{ascii_fence, ascii_footnote}
use Rattle.first_pass_grammar.proofs.Each.EachOpening.{HoldsOfEachHead, HoldsOfEachLeaf, HoldsOfOpenings, LeafHolds, each_opened}

-- an item that starts on a character boundary meets `HasWholeStart`
abbrev pub IsMarked : List ℕ → Item → Type 0
IsMarked text x = IsCharBoundary text x.start → HasWholeStart x.body text x.start

-- the first of these items, if there is one, meets `IsMarked`
abbrev pub FirstMarked : List ℕ → List (ℕ × Item) → Type 0
FirstMarked text [] = Unit {0}
FirstMarked text (x ∷ items) = IsMarked text x.1

-- a footnote definition that begins at this offset has an ASCII mark, and its index names its label
abbrev pub IsReadOpener : Document → ℕ → Opener → Type 0
IsReadOpener d start (FootnoteMarker columns index label) = IsAsciiAt d.text (start + 1) × (text_named d.names index ≡ label)
IsReadOpener d start _ = Unit {0}

-- a task list item marker is marked, wherever it starts
abbrev MarkedAnywhere : List ℕ → ItemBody → Type 0
MarkedAnywhere text body = (start : ℕ) → IsCharBoundary text start → HasWholeStart body text start

-- the kind of a fenced code block has a code fence
fence_in : (around : Context) (p : Place) (kind : Kind) (count byte : ℕ) → kind_in around p kind ≡ FencedCode count byte → kind ≡ FencedCode count byte
fence_in around p Paragraph count byte h = absurd (grind (arith, h))
fence_in around p kind count byte h = h

no_first : (options : Options) (r : Rest) (count byte : ℕ) → first_kind options r ≡ Some (FencedCode count byte) → ⊥
unfolding first_kind
no_first options r count byte h = grind (arith, h)

last_by : (rule : Option ℕ) (level : Option HeadingLevel) (fence : Option (ℕ × ℕ)) (count byte : ℕ)
    → FencedCode count byte ≡ rule_or rule (heading_or level (fence_or fence Paragraph)) → (found : ℕ × ℕ) × (fence ≡ Some found)
last_by (Some size) level fence count byte h = absurd cc
last_by None (Some level) fence count byte h = absurd cc
last_by None None (Some fence) count byte h = (fence, refl)
last_by None None None count byte h = absurd cc

fence_by : (options : Options) (r : Rest) (o : Option Kind) (count byte : ℕ) → first_kind options r ≡ o → IsKindBy r o (FencedCode count byte)
    → (found : ℕ × ℕ) × (code_fence (all_taken r).left ≡ Some found)
fence_by options r (Some first) count byte e is = absurd (no_first options r count byte (e ∙ ap (λ (k : Kind). Some k) (sym is)))
fence_by options r None count byte e (inl (n, begins, is)) = absurd cc
fence_by options r None count byte e (inr (none, is)) = grind (arith, last_by)

no_label : (d : Document) (start : ℕ) (opener : Opener) → label_of opener ≡ [] → IsReadOpener d start opener
no_label d start (FootnoteMarker columns index label) h = cc
no_label d start opener h = tt

module _ (d : Document) where
  abbrev Marked : List (ℕ × Item) → Type 0
  Marked items = FirstMarked d.text items

  -- a paragraph, a setext heading or a table
  ended_first : (start : ℕ) (marker : Option Item) (l : TextLines) (t : Taken) (o : Option (ℕ × HeadingLevel))
      → MatchOption o (t ≡ plain_text d start marker l) (λ underline. IsUnderlined d start marker l underline.1 t) → Marked t.items
  ended_first start marker l t None e = subst (λ (z : Taken). Marked z.items) (sym e) (λ b. b)
  ended_first start marker l t (Some underline) (index, named, e) = subst (λ (z : Taken). Marked z.items) (sym e) (λ b. b)

  text_by : (path : List Container) (p : Place) (marker : Option Item) (lines : List Place) (t : Taken) (o : Option (List Alignment))
      → MatchOption o (IsPlainText d path (offset p) marker lines t) (λ alignments. IsTable d path p alignments lines t) → Marked t.items
  text_by path p marker lines t None (l, are, is) = ended_first (offset p) marker l t (underline_first path l.left) is
  text_by path p marker lines t (Some alignments) h = subst Marked (sym h.items_are) (λ b. b)

  text_first : (path : List Container) (p : Place) (marker : Option Item) (lines : List Place) (t : Taken) → IsText d path p marker lines t → Marked t.items
  unfolding IsText
  text_first path p marker lines t is = text_by path p marker lines t (headed_table (around d path) p.rest.left) is

  -- a leaf block of a kind
  kind_first : (path : List Container) (p : Place) (lines : List Place) (kind : Kind) (o : Opening)
      → ((count byte : ℕ) → kind ≡ FencedCode count byte → IsAsciiAt d.text (offset (unindented p))) → OpensAs d path p lines kind o → LeafHolds Marked o
  unfolding OpensAs OpensRun OpensText
  kind_first path p lines Blank o fence e = subst (LeafHolds Marked) (sym e) tt
  kind_first path p lines IndentedCode o fence (items, is, e) = subst (LeafHolds Marked) (sym e) (rw is.items_are (λ b. b))
  kind_first path p lines (Metadata byte) o fence (items, is, e) = subst (LeafHolds Marked) (sym e) (rw is.items_are (λ b. b))
  kind_first path p lines HtmlToEnd o fence (until, found, (items, is, e)) = subst (LeafHolds Marked) (sym e) (rw is.items_are (λ b. b))
  kind_first path p lines HtmlToBlank o fence (items, is, e) = subst (LeafHolds Marked) (sym e) (rw is.items_are (λ b. b))
  kind_first path p lines (ThematicBreak size) o fence e = subst (LeafHolds Marked) (sym e) (λ b. b)
  kind_first path p lines (AtxHeading level) o fence (index, chain, stop, is, e) = subst (LeafHolds Marked) (sym e) (λ b. b)
  kind_first path p lines (FencedCode count byte) o fence (items, is, e) = grind arith
  kind_first path p lines LinkDefinitions o fence (xs, Ended q left, run, e) = subst (LeafHolds Marked) (sym e) tt
  kind_first path p lines LinkDefinitions o fence (xs, FlowsOn q more, run, (t, is, e)) = grind (arith, text_first)
  kind_first path p lines Paragraph o fence (t, is, e) = subst (LeafHolds Marked) (sym e) (text_first path (unindented p) None lines t is)

  fence_here : (path : List Container) (p : Place) (kind : Kind) (count byte : ℕ) → IsAt d.text p → IsKind d.options p.rest kind
      → kind_in (around d path) p kind ≡ FencedCode count byte → IsAsciiAt d.text (offset (unindented p))
  fence_here path p kind count byte i is e =
      let same : kind ≡ FencedCode count byte = fence_in (around d path) p kind count byte e in
      let found = fence_by d.options p.rest (first_kind d.options p.rest) count byte refl (subst (IsKind d.options p.rest) same is) in
      ascii_fence d.text (offset (unindented p)) found.0 (sym (ap code_fence (at_unindented (IsAt d.text) (at_kept d.text) p i)) ∙ found.1)

  abbrev pub IsReadHead : Head → Type 0
  IsReadHead head = IsReadOpener d head.start head.opener

  footnote_read : (c : Context) (p : Place) (head : ℕ × List ℕ) (index : CowIndex) → IsAt d.text p → footnote_head_at c p ≡ Some head
      → NamesLabel d.names index (label_bytes head.0 (unindented p).rest.left) head.1
      → IsReadOpener d (offset (unindented p)) (FootnoteMarker (footnote_columns d.options) index head.1)
  footnote_read c p head index i is named =
      let begins = head_begins (footnote_prefix c) (unindented p).rest.left head (head_here c p head is) in
      let here = at_unindented (IsAt d.text) (at_kept d.text) p i in (
        ascii_footnote d.text (offset (unindented p)) (sym (ap begins_footnote_mark here) ∙ begins),
        ap (λ (o : Option CowStr). unwrap_or (option_map text_of o) []) named.at ∙ named.text,
      )

  openings_marked : HoldsOfOpenings d (IsAt d.text) (MarkedAnywhere d.text) Marked IsReadHead
  openings_marked = record {
    containers = record { kept = at_kept d.text; task = λ checked start b. b; plain = λ head none. no_label d head.start head.opener none };
    kind = λ path p lines k o i h is opens.
        kind_first path p lines (kind_in (around d path) p k) o (λ count byte e. fence_here path p k count byte i is e) opens;
    text = λ path p marker lines t i own is. text_first path p (Some marker) lines t is;
    mark = λ marker own b. own marker.start b;
    footnote = footnote_read;
  }

-- the blocks of a derived tree
pub derived_blocks : (d : Document) (nodes : List (ℕ × Item)) (tables : Tables) (h : Derives d nodes tables)
    → HoldsOfEachLeaf (FirstMarked d.text) h.skeleton × HoldsOfEachHead (IsReadHead d) h.skeleton
derived_blocks d nodes tables h =
    let all = each_opened d (IsAt d.text) (MarkedAnywhere d.text) (FirstMarked d.text) (IsReadHead d) (openings_marked d) h.skeleton (level [] nothing) Line
    (lines_at 0 d.text) (Lines []) tt (lines_are_at d.text) h.sequence in
    (all.0, all.1)
