-- The chains of each leaf block in a derived sequence are in order: wherever a block begins is a place of the text, and
-- the lines after it follow its line.
use Rattle.std.proofs.Common.{◌≡◌, ℕ, ◌+◌, ◌-◌, ◌≤◌, Bool, true, false, List, [], ◌∷◌, length, drop, slice_index, Option, Some, None, MatchOption}
use Rattle.std.proofs.Common.{IfSome, IsUtf8, IsCharBoundary, refl, sym, ap, subst, ◌∙◌, arith, if◌then◌else◌, option_map, get_or-drop}
use Rattle.std.proofs.Common.{length-drop}
use Rattle.first_pass_grammar.proofs.Common.{cond_both, gfm_footnotes, Item, Place, place_at, Rest, offset, indent, line_end, IsPlaceOf}
use Rattle.first_pass_grammar.proofs.Common.{is_task_marker, line_len, colon, is_white, prefix_len, Head, opened, Skeleton}
use Rattle.first_pass_grammar.proofs.Common.{Nil, Then, Node, Context, at_rest, front, taken, after, footnote_head_at, footnote_at}
use Rattle.first_pass_grammar.proofs.Common.{begins, lines_from, lines_at, level, nothing, unindented}
use Rattle.first_pass_grammar.proofs.Common.{Document, Tables, Derives}
use Rattle.first_pass_grammar.proofs.Common.{around, Start, start_at, task_after, tag_after, Continues, Line, Blanks, AtPlace, Anything, OnlyALeaf, TextOf}
use Rattle.first_pass_grammar.proofs.Common.{OnlyMark}
use Rattle.first_pass_grammar.proofs.Common.{after_marker, Opening, OpensLeaf, OpensNode, OpensBlockAt, OpensText, OpensBy, OpensFootnote, Opens, OpensAt}
use Rattle.first_pass_grammar.proofs.Common.{only_task}
use Rattle.first_pass_grammar.proofs.Common.{after_tag, opening_by, opening_of, may_define, Level, level_in, level_after_leaf, level_after, Remaining}
use Rattle.first_pass_grammar.proofs.Common.{Lines, InLine, onward}
use Rattle.first_pass_grammar.proofs.Common.{after_first, IsFirst, IsSequence, kind_in, is_blank_rest, IsCharBoundary-after_ascii}
use Rattle.first_pass_grammar.proofs.Common.{IsCharBoundary-start, none-some, same_Some, footnote_prefix, false≢true, line_is_place, ItemBody}
use Rattle.first_pass_grammar.proofs.Common.{next_is_blank, start_of}
use Rattle.first_pass_grammar.specs.declared.kind.AfterMarker.{AfterMarker}
use Rattle.first_pass_grammar.specs.declared.kind.AfterMarker.TheVariants.{OnLine, TaskText, LineEnds, OnlyTag}
use Rattle.first_pass_grammar.specs.declared.kind.Container.{Container}
use Rattle.first_pass_grammar.specs.declared.kind.Container.TheVariants.{BlockQuote}
use Rattle.first_pass_grammar.specs.Skeleton.{Allowed, OpensIf, without_indent}
use Rattle.first_pass_grammar.proofs.Each.EachOpening.{HoldsOfLeaf, HoldsOfEachLeaf, LeafHolds, LeavesLines, leaf_lines}
use Rattle.first_pass_grammar.proofs.Sequences.AfterMarkers.{HoldsAfter, after_task_holds, after_quote_holds}
use Rattle.first_pass_grammar.proofs.Sequences.Goings.{BeginsAt, LeavesAt, begins_at, leaves_at}
use Rattle.first_pass_grammar.proofs.Sequences.LinesLeft.{text_left}
use Rattle.first_pass_grammar.proofs.Sequences.OpenerFacts.{start_cases}
use Rattle.first_pass_grammar.proofs.Sequences.PlacesKept.{Anywhere, anywhere_kept}
use Rattle.first_pass_grammar.proofs.Sequences.PrefixBytes.{columns_skip, if_some}
use Rattle.first_pass_lines.proofs.LineFacts.{first_line}
use Rattle.first_pass_lines.proofs.PlaceFacts.{white_boundary}
use Rattle.first_pass_open.specs.Between.{MarkerBetween}
use Rattle.first_pass_open.proofs.PlaceLemmas.{after_keeps, all_keep, definition_keeps, item_keeps, markers_keep, prefix_keeps, line_start_end, StaysInLine}
use Rattle.first_pass_ready.proofs.FootnoteLemmas.{after_note}
use Rattle.first_pass_containers.specs.FootnoteHeads.{head_read, head_end, blank_before_more}
use Rattle.first_pass_containers.proofs.OrderSteps.{mark_stands, stands_between}
use Rattle.first_pass_containers.proofs.Openings.HeadLemmas.{ContinuesAt, continues, head_after_is, head_ends}
use Rattle.first_pass_content.specs.Chains.{AreChains, has_chain}
use Rattle.first_pass_chains.proofs.NodeChains.{chains_after}
use Rattle.first_pass_chains.proofs.RowChains.{IsChained, derived_chains}
use Rattle.first_pass_chains.proofs.TableChains.{AreLater, later_next}
use Rattle.first_pass_chains.proofs.LeafChains.{Reads, reads_later, reads_unindented, reads_front, text_chained, kind_chained}

-- what may begin at a place: if only a text or a task list item marker may, that marker is before the place
abbrev MayRead : List ℕ → Place → Allowed → Type 0
MayRead text p Anything = Unit {0}
MayRead text p OnlyALeaf = Unit {0}
MayRead text p (TextOf marker) = (from : ℕ) × MarkerBetween text from (offset p) (Some marker)
MayRead text p (OnlyMark marker blanks) = is_task_marker marker.body ≡ true

-- where blocks continue, with the lines after that
abbrev ReadsOn : List ℕ → Continues → List Place → Type 0
ReadsOn text Line lines = AreLater text lines
ReadsOn text (Blanks e) lines = AreLater text lines
ReadsOn text (AtPlace p may) lines = Reads text p lines × MayRead text p may

abbrev LeftReads : List ℕ → Remaining → Type 0
LeftReads text left = ReadsOn text (onward left).0 (onward left).1

-- what opens, with what comes after that
abbrev Opened : List ℕ → Opening → Type 0
Opened text (OpensLeaf leaf there left) = HoldsOfLeaf (IsChained text) leaf × ReadsOn text there left
Opened text (OpensNode head inside following) = ReadsOn text inside following

marker_reads : (text : List ℕ) (blanks : Option ℕ) (lines : List Place) → AreLater text lines → ReadsOn text (after_marker blanks) lines
marker_reads text None lines h = h
marker_reads text (Some e) lines h = h

-- a marker alone is no chain
mark_chained : (text : List ℕ) (marker : Item) → is_task_marker marker.body ≡ true → IsChained text ((0, marker) ∷ [])
mark_chained text marker is = (chains_after text (0, marker) [] (task_none marker.body is) tt, omega arith)
  where
    task_none : (body : ItemBody) → is_task_marker body ≡ true → has_chain body ≡ false
    task_none body is = grind (arith, false≢true)

marker_some : (text : List ℕ) (from to : ℕ) (marker : Option Item) → MarkerBetween text from to marker
    → IfSome marker (λ m. MarkerBetween text from to (Some m))
marker_some text from to None h = tt
marker_some text from to (Some m) h = h

-- a head is where its prefix says
head_there : (around : Context) (p : Place) (head : ℕ × List ℕ) → footnote_head_at around p ≡ Some head
    → footnote_at false around (unindented p).rest.left ≡ Some head
unfolding footnote_head_at
head_there around p head is = if_some _ (footnote_at false around (unindented p).rest.left) head is

-- and a character ends with that
colon_boundary : (text left : List ℕ) (at size : ℕ) → IsUtf8 text → left ≡ drop at text → 3 ≤ size → size ≤ length left → slice_index left (size - 1) ≡ colon
    → IsCharBoundary text (at + size)
colon_boundary text left at size utf8 is some fits byte =
    let there : at + (size - 1) + 1 ≡ at + size = omega arith in
    let same : slice_index text (at + (size - 1)) ≡ colon =
    sym (get_or-drop at text (size - 1) 0) ∙ ap (λ (bs : List ℕ). slice_index bs (size - 1)) (sym is) ∙ byte in
    let long : length left ≡ length text - at = ap length is ∙ length-drop at text in
    subst (IsCharBoundary text) there (IsCharBoundary-after_ascii text (at + (size - 1)) utf8 (omega arith) (omega arith))

module _ (d : Document) (utf8 : IsUtf8 d.text) where
  abbrev text : List ℕ
  text = d.text

  -- where blocks continue after a head
  head_reads : (around : Context) (p : Place) (lines : List Place) (head : ℕ × List ℕ) → Reads text p lines → footnote_head_at around p ≡ Some head
      → (let there : Place × List Place = after_note d p lines head.0 in Reads text there.0 there.1)
  head_reads around p lines head reads is =
      let at = head_there around p head is in
      let h : Place = unindented p in
      let i : IsPlaceOf text h = all_keep text p.line p.rest utf8 reads.0 in
      let ends = head_ends (footnote_prefix around) false h.rest.left head at in
      let gfm : Bool = gfm_footnotes d.options in
      let e : ℕ = offset h + head.0 in
      let colon_ends = colon_boundary text h.rest.left (offset h) head.0 utf8 i.left ends.0 ends.1 ends.2 in
      let n : ℕ = head_read gfm head.0 (drop e text) in
      let read = head_after_is d p (footnote_prefix around) false head n utf8 reads.0 at refl in
      let c = read_continues gfm (offset h) head.0 colon_ends in
      let all : after_note d p lines head.0 ≡ (head_end text c.0, lines_from text (line_end (head_end text c.0))) =
      ap (λ (z : List Place). after_note d p z head.0) reads.1 ∙ read ∙ c.1.0 in
      subst (λ (z : Place × List Place). Reads text z.0 z.1) (sym all) (line_is_place text c.0 c.1.2, refl)
    where
      read_continues : (gfm : Bool) (start size : ℕ) → IsCharBoundary text (start + size)
          → (at : ℕ) × ContinuesAt gfm text (start + head_read gfm size (drop (start + size) text)) at
      read_continues true start size boundary =
          let w : ℕ = prefix_len is_white (drop (start + size) text) in
          let same : start + size + w ≡ start + (size + w) = omega arith in
          let after : IsCharBoundary text (start + (size + w)) = subst (IsCharBoundary text) same (white_boundary text (start + size) utf8 boundary) in
          (start + (size + w) + 0, continues true text (start + (size + w)) 0 utf8 after refl)
      read_continues false start size boundary =
          let skip : ℕ = blank_before_more (drop (start + size) text) in
          (start + size + skip, continues false text (start + size) skip utf8 boundary refl)

  -- a leaf block
  leaf_opened : (o : Opening) → LeafHolds (IsChained text) o → LeavesLines (AreLater text) o → Opened text o
  leaf_opened (OpensLeaf leaf there left) own (is, later) = (own, subst (λ (z : Continues). ReadsOn text z left) (sym is) later)
  leaf_opened (OpensNode head inside following) own h = absurd h

  block_opened : (path : List Container) (p : Place) (lines : List Place) (o : Opening) → Reads text p lines → OpensBlockAt d path p lines o → Opened text o
  block_opened path p lines o reads (kind, is, opens) =
      leaf_opened o (kind_chained d utf8 path p lines kind o reads is opens)
      (leaf_lines d Anywhere anywhere_kept (AreLater text) (λ line lines h. tt) (later_next text utf8) path p lines (kind_in (around d path) p kind) o tt
      (reads_later text utf8 p lines reads) opens)

  -- a container, by what follows its marker
  task_reads : (marker : Option Item) (p : Place) (from : ℕ) (blanks : Option ℕ) (lines : List Place) → Reads text p lines
      → IfSome marker (λ m. MarkerBetween text from (offset p) (Some m)) → ReadsOn text (only_task marker p blanks) lines
  task_reads None p from blanks lines reads h = marker_reads text blanks lines (reads_later text utf8 p lines reads)
  task_reads (Some m) p from blanks lines reads h = (reads, h.0)

  tag_reads : (c : Context) (lines : List Place) → AreLater text lines → ReadsOn text (after_tag c lines).0 (after_tag c lines).1
  tag_reads c [] later = later
  tag_reads c (line ∷ lines) later =
      cond_both _ (Line, line ∷ lines) (AtPlace (unindented (at_rest line (front c.path line.rest))) OnlyALeaf, lines)
      (λ (z : Continues × List Place). ReadsOn text z.0 z.1) (λ b. later) (λ b. (reads_front text utf8 c.path line lines later, tt))

  opening_reads : (path : List Container) (head : Head) (inside : Place) (from : ℕ) (lines : List Place) (follows : AfterMarker) → Reads text inside lines
      → HoldsAfter (λ m. MarkerBetween text from (offset inside) (Some m)) follows → Opened text (opening_by d path head inside lines follows)
  opening_reads path head inside from lines OnLine reads h = (reads, tt)
  opening_reads path head inside from lines (TaskText marker) reads h = (reads, (from, h))
  opening_reads path head inside from lines (LineEnds marker) reads h =
      let blanks : Option ℕ = Some (start_of (length text) lines) in
      cond_both (next_is_blank (opened head.opener ∷ path) lines)
      (OpensNode (record head { opener = without_indent head.opener }) (only_task marker inside blanks) lines)
      (OpensNode head (only_task marker inside None) lines) (Opened text)
      (λ b. task_reads marker inside from blanks lines reads h) (λ b. task_reads marker inside from None lines reads h)
  opening_reads path head inside from lines OnlyTag reads h = tag_reads _ lines (reads_later text utf8 inside lines reads)

  stays_reads : (p : Place) (s : Rest) (lines : List Place) → Reads text p lines → StaysInLine text p.line p.rest s → Reads text (at_rest p s) lines
  stays_reads p s lines reads stays = (stays.0, reads.1 ∙ ap (lines_from text) (sym stays.1))

  -- the start of a container
  abbrev StartReads : Place → List Place → Start → Type 0
  StartReads p lines s =
      (from : ℕ) × Reads text (at_rest p s.rest) lines × HoldsAfter (λ m. MarkerBetween text from (offset (at_rest p s.rest)) (Some m)) s.after

  start_reads : (p : Place) (lines : List Place) (may : Bool) (s : Start) → Reads text p lines → start_at d.options may p ≡ Some s → StartReads p lines s
  start_reads p lines may s reads is =
      start_cases d.options may p (StartReads p lines)
      (λ item at.
      let own = item_keeps text p.line p.rest item utf8 at reads.0 in
      let inside : Rest = (task_after d.options p.line item.1).1 in
      let k = markers_keep text d.options p.line p.rest item inside utf8 at refl reads.0 in
      let marker : Option Item = (task_after d.options p.line item.1).0 in
      let from : ℕ = offset (place_at p.line item.1) in
      let mark = mark_stands text d.options p.line item.1 from utf8 own.0 (omega arith) in (
        from,
        (k.0, reads.1 ∙ ap (lines_from text) (sym k.1)),
        after_task_holds (λ m. MarkerBetween text from (offset (at_rest p inside)) (Some m)) (is_blank_rest inside) marker
            (marker_some text from (offset (at_rest p inside)) marker mark),
      ))
      (λ marker none at. (
        0,
        stays_reads p marker.1 lines reads (definition_keeps text p.line p.rest marker utf8 at reads.0),
        after_task_holds (λ m. MarkerBetween text 0 (offset (at_rest p marker.1)) (Some m)) (is_blank_rest marker.1) None tt,
      ))
      (λ r none at. (
        0,
        stays_reads p r lines reads (prefix_keeps text p.line (BlockQuote None) p.rest r utf8 at reads.0),
        after_quote_holds (λ m. MarkerBetween text 0 (offset (at_rest p r)) (Some m)) (tag_after d.options r),
      ))
      s is

  start_opened : (path : List Container) (p : Place) (lines : List Place) (may : Bool) (s : Start) → Reads text p lines → start_at d.options may p ≡ Some s
      → Opened text (opening_of d path p lines s)
  start_opened path p lines may s reads is =
      let begun = start_reads p lines may s reads is in
      opening_reads path s.head (at_rest p s.rest) begun.0 lines s.after begun.1 begun.2

  by_opened : (path : List Container) (p : Place) (lines : List Place) (may : Bool) (q : Option Start) (o : Opening) → start_at d.options may p ≡ q
      → Reads text p lines → OpensBy d path p lines q o → Opened text o
  unfolding OpensBy
  by_opened path p lines may (Some s) o is reads e = subst (Opened text) (sym e) (start_opened path p lines may s reads is)
  by_opened path p lines may None o is reads opens = block_opened path p lines o reads opens

  head_opened : (l : Level) (p : Place) (lines : List Place) (head : Option (ℕ × List ℕ)) (o : Opening) → footnote_head_at (around d l.path) p ≡ head
      → Reads text p lines
      → MatchOption head (OpensBy d l.path p lines (start_at d.options (may_define d l) p) o) (λ h. OpensFootnote d p lines h o) → Opened text o
  unfolding OpensFootnote
  head_opened l p lines None o is reads opens = by_opened l.path p lines (may_define d l) (start_at d.options (may_define d l) p) o refl reads opens
  head_opened l p lines (Some (size, label)) o is reads (index, named, e) =
      subst (Opened text) (sym e) (head_reads (around d l.path) p lines (size, label) reads is, tt)

  any_opened : (l : Level) (p : Place) (lines : List Place) (o : Opening) → Reads text p lines → Opens d l p lines o → Opened text o
  any_opened l p lines o reads opens = head_opened l p lines (footnote_head_at (around d l.path) p) o refl reads opens

  may_opened : (l : Level) (may : Allowed) (p : Place) (lines : List Place) (o : Opening) → MayRead text p may → Reads text p lines → OpensIf d l may p lines o
      → Opened text o
  unfolding OpensText
  may_opened l Anything p lines o task reads opens = any_opened l p lines o reads opens
  may_opened l OnlyALeaf p lines o task reads opens = block_opened l.path p lines o reads opens
  may_opened l (TextOf marker) p lines o (from, stands) reads (t, is, e) =
      let taken = (columns_skip (indent p.rest) p.rest).taken in
      let wider = stands_between text from from (offset p) (offset (unindented p)) (Some marker) (omega arith) (omega arith) stands in
      subst (Opened text) (sym e) (
        text_chained d utf8 l.path (unindented p) from (Some marker) lines t (reads_unindented text utf8 p lines reads) wider is,
        text_left (AreLater text) (later_next text utf8) d l.path (unindented p) (Some marker) lines t (reads_later text utf8 p lines reads) is,
      )
  may_opened l (OnlyMark marker blanks) p lines o task reads e =
      subst (Opened text) (sym e) (mark_chained text marker task, reads_later text utf8 p lines reads)

  -- what opens where blocks continue
  abbrev MayAt : Continues → Place → Type 0
  MayAt Line p = Unit {0}
  MayAt (Blanks e) p = Unit {0}
  MayAt (AtPlace q may) p = MayRead text p may

  at_opened : (l : Level) (from : Continues) (p : Place) (lines : List Place) (o : Opening) → MayAt from p → Reads text p lines → OpensAt d l from p lines o
      → Opened text o
  at_opened l Line p lines o may reads opens = any_opened l p lines o reads opens
  at_opened l (Blanks e) p lines o may reads opens = any_opened l p lines o reads opens
  at_opened l (AtPlace q m) p lines o may reads opens = may_opened l m p lines o may reads opens

  -- the place of a block in the next line
  line_begun : (path : List Container) (line q : Place) (lines : List Place) → taken path line ≡ Some q → AreLater text (line ∷ lines) → Reads text q lines
  line_begun path line q lines is (at, boundary, lines_are) =
      let first = first_line text at line lines lines_are in
      taken_by (after path line.rest) refl is
    where
      taken_by : (o : Option Rest) → after path line.rest ≡ o → option_map (at_rest line) o ≡ Some q → Reads text q lines
      taken_by None e h = absurd (none-some q h)
      taken_by (Some r) e h =
          let first = first_line text at line lines lines_are in
          let place : IsPlaceOf text line = subst (IsPlaceOf text) (sym first.1) (line_is_place text at boundary) in
          let k = after_keeps text line.line path line.rest r utf8 e place in
          let end : line_end line ≡ at + line_len (drop at text) = ap line_end first.1 ∙ line_start_end text at in
          subst (λ (z : Place). Reads text z lines) (same_Some (at_rest line r) q h) (k.0, first.2 ∙ ap (lines_from text) (sym (k.1 ∙ end)))

  begun : (path : List Container) (from : Continues) (lines : List Place) (p : Place) (following : List Place) → ReadsOn text from lines
      → BeginsAt path from lines p following → Reads text p following × MayAt from p
  begun path Line [] p following held begins = absurd begins
  begun path Line (line ∷ lines) p following held (is, e) = (subst (Reads text p) (sym e) (line_begun path line p lines is held), tt)
  begun path (Blanks n) [] p following held begins = absurd begins
  begun path (Blanks n) (line ∷ lines) p following held (is, e) = (subst (Reads text p) (sym e) (line_begun path line p lines is held), tt)
  begun path (AtPlace q may) lines p following held (same, e) =
      let reads = subst (λ (z : Place). Reads text z following) (sym same) (subst (Reads text q) (sym e) held.0) in
      (reads, subst (λ (z : Place). MayRead text z may) (sym same) held.1)

  first_opened : (l : Level) (from : Continues) (lines : List Place) (o : Opening) → ReadsOn text from lines → IsFirst d l from lines o → Opened text o
  first_opened l from lines o held f =
      let there = begun l.path from lines f.place f.following held (begins_at d.options l from lines f.place f.following f.begins) in
      at_opened l from f.place f.following o there.1 there.0 f.opens

  later_on : (from : Continues) (lines : List Place) → ReadsOn text from lines → AreLater text lines
  later_on Line lines held = held
  later_on (Blanks e) lines held = held
  later_on (AtPlace p may) lines held = reads_later text utf8 p lines held.0

  first_reads : (from there : Continues) (lines : List Place) → ReadsOn text there lines → ReadsOn text (after_first from there) lines
  first_reads (Blanks e) there lines held = later_on there lines held
  first_reads Line there lines held = held
  first_reads (AtPlace p Anything) there lines held = held
  first_reads (AtPlace p OnlyALeaf) there lines held = held
  first_reads (AtPlace p (TextOf marker)) there lines held = held
  first_reads (AtPlace p (OnlyMark marker blanks)) there lines held = marker_reads text blanks lines (later_on there lines held)

  left_held : (path : List Container) (from : Continues) (lines : List Place) (left : Remaining) → ReadsOn text from lines → LeavesAt path from lines left
      → LeftReads text left
  left_held path from lines (Lines left) held is = subst (AreLater text) (sym is) (later_on from lines held)
  left_held path from lines (InLine p following) held at = ((begun path from lines p following held at.0).0, tt)

  -- each block of a sequence
  each_opened : (s : Skeleton) (l : Level) (from : Continues) (lines : List Place) (left : Remaining) → ReadsOn text from lines
      → IsSequence d s l from lines left → HoldsOfEachLeaf (IsChained text) s × LeftReads text left
  unfolding IsSequence HoldsOfEachLeaf
  each_opened Nil l from lines left held ends = (tt, left_held l.path from lines left held (leaves_at d.options l from lines left ends))
  each_opened (Then leaf next) l from lines left held (there, mid, first, more) =
      let one = first_opened l from lines (OpensLeaf leaf there mid) held first in
      let rest = each_opened next (level_after_leaf l leaf) (after_first from there) mid left (first_reads from there mid one.1) more in
      ((one.0, rest.0), rest.1)
  each_opened (Node head e kids next) l from lines left held (inside, following, mid, first, inner, is, more) =
      let one = first_opened l from lines (OpensNode head inside following) held first in
      let below = each_opened kids (level_in (opened head.opener) l) inside following mid one inner in
      let rest = each_opened next (level_after l head kids) (after_first from (onward mid).0) (onward mid).1 left
      (first_reads from (onward mid).0 (onward mid).1 below.1) more in
      ((below.0, rest.0), rest.1)

-- The chains of a derived tree are in order.
pub chains_in_order : (d : Document) (nodes : List (ℕ × Item)) (tables : Tables) → IsUtf8 d.text → Derives d nodes tables → AreChains d.text nodes
chains_in_order d nodes tables utf8 h =
    let from : AreLater d.text (lines_at 0 d.text) = (0, IsCharBoundary-start d.text utf8, refl) in
    derived_chains d nodes tables h
    (each_opened d utf8 h.skeleton (level [] nothing) Line (lines_at 0 d.text) (Lines []) from h.sequence).0
