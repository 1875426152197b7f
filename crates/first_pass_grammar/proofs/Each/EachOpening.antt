-- A property of each leaf block, by how it begins, and one of the head of each container hold in a derived sequence.
use Rattle.std.proofs.Common.{◌≡◌, ℕ, Bool, List, ◌∷◌, length, Option, Some, None, MatchOption, IfSome, refl, sym, subst, arith, []}
use Rattle.first_pass_grammar.proofs.Common.{cond_both, gfm_footnotes, CowIndex, Item, ItemBody, TaskListMarker, Place, offset, Rest, indent, Leaf, BlankLine}
use Rattle.first_pass_grammar.proofs.Common.{Block, Opener, FootnoteMarker, Head, label_of, opened, Skeleton, Nil, Then, Node, fence_judge, metadata_judge}
use Rattle.first_pass_grammar.proofs.Common.{Context, at_rest, footnote_columns, in_containers, footnote_head_at, label_bytes, NamesLabel, place_past}
use Rattle.first_pass_grammar.proofs.Common.{tag_judge, blank_judge, Kind, Blank, IndentedCode, Metadata, HtmlToEnd, HtmlToBlank, ThematicBreak, AtxHeading}
use Rattle.first_pass_grammar.proofs.Common.{FencedCode, LinkDefinitions, IsKind, unindented, is_blank_rest, Document, around, kind_in, lines_beyond, Ended}
use Rattle.first_pass_grammar.proofs.Common.{FlowsOn, Start, start_at, task_by, tag_after, Continues, Line, Blanks, AtPlace, Anything, OnlyALeaf, TextOf}
use Rattle.first_pass_grammar.proofs.Common.{OnlyMark, after_marker, Opening, OpensLeaf, OpensNode, OpensText, OpensRun, OpensAs, OpensBlockAt, only_task}
use Rattle.first_pass_grammar.proofs.Common.{after_tag, opening_by, opening_of, OpensBy, OpensFootnote, Opens, OpensAt, may_define, Level, level_in}
use Rattle.first_pass_grammar.proofs.Common.{level_after_leaf, level_after, Remaining, Lines, InLine, onward, after_first, IsFirst, IsSequence, Taken, IsText}
use Rattle.first_pass_grammar.proofs.Common.{Extent, extent}
use Rattle.first_pass_grammar.specs.declared.kind.AfterMarker.{AfterMarker}
use Rattle.first_pass_grammar.specs.declared.kind.Container.{Container}
use Rattle.first_pass_grammar.specs.Kinds.{Paragraph}
use Rattle.first_pass_grammar.specs.Skeleton.{Allowed, without_indent, OpensIf}
use Rattle.first_pass_grammar.proofs.Sequences.AfterMarkers.{HoldsAfter, after_task_holds, after_quote_holds}
use Rattle.first_pass_grammar.proofs.Sequences.Goings.{BeginsAt, LeavesAt, begins_at, leaves_at}
use Rattle.first_pass_grammar.proofs.Sequences.LinesLeft.{beyond_left, head_left, run_left, text_left}
use Rattle.first_pass_grammar.proofs.Sequences.OpenerFacts.{start_cases}
use Rattle.first_pass_grammar.proofs.Sequences.PlacesKept.{HoldsAtEach, IsKeptLater, at_unindented, at_front, at_taken, at_quote, at_item, at_marker}
use Rattle.first_pass_grammar.proofs.Sequences.PlacesKept.{extent_left, code_left, IsKeptBelow}

-- a property of the items of a leaf
abbrev pub HoldsOfLeaf : (List (ℕ × Item) → Type 0) → Leaf → Type 0
HoldsOfLeaf P BlankLine = Unit {0}
HoldsOfLeaf P (Block b) = P b.items

-- a property of the items of the leaf that opens, if one does
abbrev pub LeafHolds : (List (ℕ × Item) → Type 0) → Opening → Type 0
LeafHolds P (OpensLeaf leaf there left) = HoldsOfLeaf P leaf
LeafHolds P (OpensNode head inside following) = Unit {0}

-- a property of the items of each leaf block in a sequence
unfoldable pub HoldsOfEachLeaf : (List (ℕ × Item) → Type 0) → Skeleton → Type 0
HoldsOfEachLeaf P Nil = Unit {0}
HoldsOfEachLeaf P (Then leaf next) = HoldsOfLeaf P leaf × HoldsOfEachLeaf P next
HoldsOfEachLeaf P (Node head e kids next) = HoldsOfEachLeaf P kids × HoldsOfEachLeaf P next

-- a property of the head of each container in a sequence
unfoldable pub HoldsOfEachHead : (Head → Type 0) → Skeleton → Type 0
HoldsOfEachHead Q Nil = Unit {0}
HoldsOfEachHead Q (Then leaf next) = HoldsOfEachHead Q next
HoldsOfEachHead Q (Node head e kids next) = Q head × HoldsOfEachHead Q kids × HoldsOfEachHead Q next

-- holds of any head
abbrev pub AnyHead : Head → Type 0
AnyHead head = Unit {0}

-- a property of the task list item marker that may begin a text, if there is one
abbrev pub HoldsOfMay : (ItemBody → Type 0) → Allowed → Type 0
HoldsOfMay M Anything = Unit {0}
HoldsOfMay M OnlyALeaf = Unit {0}
HoldsOfMay M (TextOf marker) = M marker.body
HoldsOfMay M (OnlyMark marker blanks) = M marker.body

-- the same, and a property of the place where blocks continue
abbrev pub HoldsFrom : (Place → Type 0) → (ItemBody → Type 0) → Continues → Type 0
HoldsFrom At M Line = Unit {0}
HoldsFrom At M (Blanks e) = Unit {0}
HoldsFrom At M (AtPlace p may) = At p × HoldsOfMay M may

-- the same where blocks continue and at the lines after that
abbrev pub HoldsOn : (Place → Type 0) → (ItemBody → Type 0) → Continues × List Place → Type 0
HoldsOn At M there = HoldsFrom At M there.0 × HoldsAtEach At there.1

-- the same after what a sequence leaves
abbrev pub HoldsOfLeft : (Place → Type 0) → (ItemBody → Type 0) → Remaining → Type 0
HoldsOfLeft At M left = HoldsOn At M (onward left)

-- a container opens, and its head has a property
abbrev pub OpensContainer : (Place → Type 0) → (ItemBody → Type 0) → (Head → Type 0) → Opening → Type 0
OpensContainer At M Q (OpensLeaf leaf there left) = ⊥
OpensContainer At M Q (OpensNode head inside following) = Q head × HoldsFrom At M inside × HoldsAtEach At following

-- properties of places, of task list item markers, and of heads without a label
pub record HoldsOfContainers (At : Place → Type 0) (M : ItemBody → Type 0) (Q : Head → Type 0) : Type 0 where
  pub kept : IsKeptLater At
  pub task : (checked : Bool) → M (TaskListMarker checked)
  pub plain : (head : Head) → label_of head.opener ≡ [] → Q head

marker_from : (At : Place → Type 0) (M : ItemBody → Type 0) (blanks : Option ℕ) → HoldsFrom At M (after_marker blanks)
marker_from At M blanks = grind arith

pub first_from : (At : Place → Type 0) (M : ItemBody → Type 0) (from there : Continues) → HoldsFrom At M there → HoldsFrom At M (after_first from there)
first_from At M from there k = grind (arith, marker_from)

no_label : (o : Opener) → label_of o ≡ [] → label_of (without_indent o) ≡ []
no_label o h = grind arith

module _ (d : Document) (At : Place → Type 0) (M : ItemBody → Type 0) (Q : Head → Type 0) (holds : HoldsOfContainers At M Q) where
  abbrev HoldsOfMark : Item → Type 0
  HoldsOfMark x = M x.body

  task_holds : (line : ℕ) (r : Rest) (o : Option (Bool × Rest)) → IfSome (task_by line r o).0 HoldsOfMark
  task_holds line r o = grind arith

  alone_from : (marker : Option Item) (p : Place) (blanks : Option ℕ) → IfSome marker HoldsOfMark → At p → HoldsFrom At M (only_task marker p blanks)
  alone_from marker p blanks h i = grind (arith, marker_from)

  tag_on : (c : Context) (lines : List Place) → HoldsAtEach At lines → HoldsOn At M (after_tag c lines)
  tag_on c lines h = grind (arith, cond_both, at_front)

  opening_holds : (path : List Container) (head : Head) (inside : Place) (lines : List Place) (after : AfterMarker) → label_of head.opener ≡ []
      → HoldsAfter HoldsOfMark after → At inside → HoldsAtEach At lines → OpensContainer At M Q (opening_by d path head inside lines after)
  opening_holds path head inside lines after none task i h = grind (arith, cond_both, no_label, alone_from, tag_on)

  -- the start of a container has no label
  abbrev IsStart : Place → Start → Type 0
  IsStart p s = (label_of s.head.opener ≡ []) × HoldsAfter HoldsOfMark s.after × At (at_rest p s.rest)

  start_is : (may : Bool) (p : Place) → At p → (s : Start) → start_at d.options may p ≡ Some s → IsStart p s
  start_is may p i =
      start_cases d.options may p (IsStart p)
      (λ item is. grind (arith, after_task_holds, task_holds, at_item))
      (λ marker none is. (refl, after_task_holds HoldsOfMark (is_blank_rest marker.1) None tt, at_marker At holds.kept p marker is i))
      (λ r none is. (refl, after_quote_holds HoldsOfMark (tag_after d.options r), at_quote At holds.kept p r is i))

  pub container_opens : (path : List Container) (p : Place) (lines : List Place) (may : Bool) (s : Start) → At p → HoldsAtEach At lines
      → start_at d.options may p ≡ Some s → OpensContainer At M Q (opening_of d path p lines s)
  container_opens path p lines may s i h is = grind (arith, start_is, opening_holds)

-- after a leaf block, blocks continue at the next line, and the lines from there on have a property
abbrev pub LeavesLines : (List Place → Type 0) → Opening → Type 0
LeavesLines L (OpensLeaf leaf there left) = (there ≡ Line) × L left
LeavesLines L (OpensNode head inside following) = ⊥

-- they have it if the lines after the first line of a block always do
module _ (d : Document) (At : Place → Type 0) (kept : IsKeptLater At) (L : List Place → Type 0)
    (first : (line : Place) (lines : List Place) → L (line ∷ lines) → At line) (further : IsKeptBelow L) where
  pub leaf_lines : (path : List Container) (p : Place) (lines : List Place) (kind : Kind) (o : Opening) → At p → L lines
      → OpensAs d path p lines kind o → LeavesLines L o
  unfolding OpensAs OpensRun OpensText
  leaf_lines path p lines Blank o i h e = subst (LeavesLines L) (sym e) (refl, h)
  leaf_lines path p lines IndentedCode o i h (items, is, e) = subst (LeavesLines L) (sym e) (refl, code_left L further path lines h)
  leaf_lines path p lines (Metadata byte) o i h (items, is, e) =
      subst (LeavesLines L) (sym e) (refl, extent_left L further (in_containers path (metadata_judge byte)) (length d.text) lines h)
  leaf_lines path p lines HtmlToEnd o i h (until, found, (items, is, e)) =
      let rest : Extent = extent (in_containers path (tag_judge until)) (length d.text) lines in
      let last = extent_left L further (in_containers path (tag_judge until)) (length d.text) lines h in grind (arith, cond_both)
  leaf_lines path p lines HtmlToBlank o i h (items, is, e) =
      subst (LeavesLines L) (sym e) (refl, extent_left L further (in_containers path blank_judge) (length d.text) lines h)
  leaf_lines path p lines (ThematicBreak size) o i h e = subst (LeavesLines L) (sym e) (refl, h)
  leaf_lines path p lines (AtxHeading level) o i h (index, chain, stop, is, e) = subst (LeavesLines L) (sym e) (refl, h)
  leaf_lines path p lines (FencedCode count byte) o i h (items, is, e) =
      subst (LeavesLines L) (sym e) (refl, extent_left L further (in_containers path (fence_judge (indent p.rest) byte count)) (length d.text) lines h)
  leaf_lines path p lines LinkDefinitions o i h (xs, Ended q left, run, e) =
      subst (LeavesLines L) (sym e)
      (refl, run_left At kept L first further (around d path) (unindented p) lines xs (Ended q left) (at_unindented At kept p i) h run)
  leaf_lines path p lines LinkDefinitions o i h (xs, FlowsOn q more, run, (t, is, e)) =
      let there = run_left At kept L first further (around d path) (unindented p) lines xs (FlowsOn q more) (at_unindented At kept p i) h run in
      subst (LeavesLines L) (sym e) (refl, text_left L further d path q None more t there.1 is)
  leaf_lines path p lines Paragraph o i h (t, is, e) = subst (LeavesLines L) (sym e) (refl, text_left L further d path (unindented p) None lines t h is)

-- The properties hold of each leaf block and each head by how they begin: a leaf block of a kind, a text after a task
-- list item marker, such a marker alone, or a footnote definition.
pub record HoldsOfOpenings (d : Document) (At : Place → Type 0) (M : ItemBody → Type 0) (P : List (ℕ × Item) → Type 0) (Q : Head → Type 0) : Type 0 where
  pub containers : HoldsOfContainers At M Q
  pub kind : (path : List Container) (p : Place) (lines : List Place) (k : Kind) (o : Opening) → At p → HoldsAtEach At lines → IsKind d.options p.rest k
      → OpensAs d path p lines (kind_in (around d path) p k) o → LeafHolds P o
  pub text : (path : List Container) (p : Place) (marker : Item) (lines : List Place) (t : Taken) → At p → M marker.body
      → IsText d path p (Some marker) lines t → P t.items
  pub mark : (marker : Item) → M marker.body → P ((0, marker) ∷ [])
  pub footnote : (c : Context) (p : Place) (head : ℕ × List ℕ) (index : CowIndex) → At p → footnote_head_at c p ≡ Some head
      → NamesLabel d.names index (label_bytes head.0 (unindented p).rest.left) head.1
      → Q (record { opener = FootnoteMarker (footnote_columns d.options) index head.1; line = p.line; start = offset (unindented p) })

module _ (d : Document) (At : Place → Type 0) (M : ItemBody → Type 0) (P : List (ℕ × Item) → Type 0) (Q : Head → Type 0)
    (holds : HoldsOfOpenings d At M P Q) where
  abbrev Opened : Opening → Type 0
  Opened (OpensLeaf leaf there left) = HoldsOfLeaf P leaf × HoldsFrom At M there × HoldsAtEach At left
  Opened (OpensNode head inside following) = Q head × HoldsFrom At M inside × HoldsAtEach At following

  node_opened : (o : Opening) → OpensContainer At M Q o → Opened o
  node_opened o h = grind arith

  abbrev kept : IsKeptLater At
  kept = holds.containers.kept

  leaf_opened : (o : Opening) → LeafHolds P o → LeavesLines (HoldsAtEach At) o → Opened o
  leaf_opened o own h = grind arith

  block_opened : (path : List Container) (p : Place) (lines : List Place) (o : Opening) → At p → HoldsAtEach At lines → OpensBlockAt d path p lines o → Opened o
  block_opened path p lines o i h (k, is, opens) =
      leaf_opened o (holds.kind path p lines k o i h is opens)
      (leaf_lines d At kept (HoldsAtEach At) (λ line lines h. h.0) (λ line lines h. h.1) path p lines (kind_in (around d path) p k) o i h opens)

  start_opened : (path : List Container) (p : Place) (lines : List Place) (q : Option Start) (o : Opening)
      → ((s : Start) → q ≡ Some s → OpensContainer At M Q (opening_of d path p lines s)) → At p → HoldsAtEach At lines → OpensBy d path p lines q o → Opened o
  unfolding OpensBy
  start_opened path p lines (Some s) o starts i h e = subst Opened (sym e) (node_opened (opening_of d path p lines s) (starts s refl))
  start_opened path p lines None o starts i h opens = block_opened path p lines o i h opens

  head_opened : (l : Level) (p : Place) (lines : List Place) (head : Option (ℕ × List ℕ)) (o : Opening) → footnote_head_at (around d l.path) p ≡ head
      → At p → HoldsAtEach At lines
      → MatchOption head (OpensBy d l.path p lines (start_at d.options (may_define d l) p) o) (λ h. OpensFootnote d p lines h o) → Opened o
  unfolding OpensFootnote
  head_opened l p lines None o is i h opens =
      start_opened l.path p lines (start_at d.options (may_define d l) p) o
      (λ s e. container_opens d At M Q holds.containers l.path p lines (may_define d l) s i h e) i h opens
  head_opened l p lines (Some (size, label)) o is i h (index, named, e) =
      let q : Place = place_past size (unindented p) in
      let there = head_left At kept (HoldsAtEach At) (λ line lines h. h.0) (λ line lines h. h.1) (gfm_footnotes d.options) q (lines_beyond (offset q) lines)
      (kept.past size (unindented p) (at_unindented At kept p i)) (beyond_left (HoldsAtEach At) (λ line lines h. h.1) (offset q) lines h) in
      subst Opened (sym e) (holds.footnote (around d l.path) p (size, label) index i is named, (there.0, tt), there.1)

  any_opened : (l : Level) (p : Place) (lines : List Place) (o : Opening) → At p → HoldsAtEach At lines → Opens d l p lines o → Opened o
  any_opened l p lines o i h opens = head_opened l p lines (footnote_head_at (around d l.path) p) o refl i h opens

  may_opened : (l : Level) (may : Allowed) (p : Place) (lines : List Place) (o : Opening) → HoldsOfMay M may → At p → HoldsAtEach At lines
      → OpensIf d l may p lines o → Opened o
  unfolding OpensText
  may_opened l Anything p lines o task i h opens = any_opened l p lines o i h opens
  may_opened l OnlyALeaf p lines o task i h opens = block_opened l.path p lines o i h opens
  may_opened l (TextOf marker) p lines o task i h (t, is, e) =
      subst Opened (sym e) (
        holds.text l.path (unindented p) marker lines t (at_unindented At kept p i) task is,
        tt,
        text_left (HoldsAtEach At) (λ line lines h. h.1) d l.path (unindented p) (Some marker) lines t h is,
      )
  may_opened l (OnlyMark marker blanks) p lines o task i h e = subst Opened (sym e) (holds.mark marker task, tt, h)

  -- what opens where blocks continue
  at_opened : (l : Level) (from : Continues) (p : Place) (lines : List Place) (o : Opening) → HoldsFrom At M from → At p → HoldsAtEach At lines
      → OpensAt d l from p lines o → Opened o
  at_opened l Line p lines o from i h opens = any_opened l p lines o i h opens
  at_opened l (Blanks e) p lines o from i h opens = any_opened l p lines o i h opens
  at_opened l (AtPlace q may) p lines o from i h opens = may_opened l may p lines o from.1 i h opens

  begun : (path : List Container) (from : Continues) (lines : List Place) (p : Place) (following : List Place) → HoldsFrom At M from → HoldsAtEach At lines
      → BeginsAt path from lines p following → At p × HoldsAtEach At following
  begun path from lines p following h5 h begins = grind (arith, at_taken)

  first_opened : (l : Level) (from : Continues) (lines : List Place) (o : Opening) → HoldsFrom At M from → HoldsAtEach At lines
      → IsFirst d l from lines o → Opened o
  first_opened l from lines o held h f =
      let there = begun l.path from lines f.place f.following held h (begins_at d.options l from lines f.place f.following f.begins) in
      at_opened l from f.place f.following o held there.0 there.1 f.opens

  left_held : (path : List Container) (from : Continues) (lines : List Place) (left : Remaining) → HoldsFrom At M from → HoldsAtEach At lines
      → LeavesAt path from lines left → HoldsOfLeft At M left
  left_held path from lines (Lines left) held h is = (tt, subst (HoldsAtEach At) (sym is) h)
  left_held path from lines (InLine p following) held h at = (let there = begun path from lines p following held h at.0 in ((there.0, tt), there.1))

  -- each block of a sequence
  pub each_opened : (s : Skeleton) (l : Level) (from : Continues) (lines : List Place) (left : Remaining) → HoldsFrom At M from → HoldsAtEach At lines
      → IsSequence d s l from lines left → HoldsOfEachLeaf P s × HoldsOfEachHead Q s × HoldsOfLeft At M left
  unfolding IsSequence HoldsOfEachLeaf HoldsOfEachHead
  each_opened Nil l from lines left held h ends = (tt, tt, left_held l.path from lines left held h (leaves_at d.options l from lines left ends))
  each_opened (Then leaf next) l from lines left held h (there, mid, first, more) =
      let one = first_opened l from lines (OpensLeaf leaf there mid) held h first in
      grind (arith, first_from, each_opened next (level_after_leaf l leaf) (after_first from there) mid left (first_from At M from there one.1) one.2 more)
  each_opened (Node head e kids next) l from lines left held h (inside, following, mid, first, inner, is, more) =
      let one = first_opened l from lines (OpensNode head inside following) held h first in
      let below = each_opened kids (level_in (opened head.opener) l) inside following mid one.1 one.2 inner in
      let rest = each_opened next (level_after l head kids) (after_first from (onward mid).0) (onward mid).1 left
      (first_from At M from (onward mid).0 below.2.0) below.2.1 more in
      ((below.0, rest.0), (one.0, below.1, rest.1), rest.2)
