-- Blocks added before a sequence lead to the same trees.
use Rattle.std.proofs.Common.{◌≡◌, ℕ, suc, ◌<◌, ◌≤◌, Bool, true, false, ◌||◌, ◌&&◌, List, [], ◌∷◌, ◌++◌, length, Option, Some, None, MatchOption, refl, sym}
use Rattle.std.proofs.Common.{ap, ◌∙◌, subst, arith, is_some}
use Rattle.first_pass_grammar.proofs.Common.{and-false, Item, Place, taken, is_quote, in_quote, in_footnote, footnote_head_at, ends_footnote, start_at}
use Rattle.first_pass_grammar.proofs.Common.{Document, around, LeafBlock, Block, Head, label_of, Skeleton, Nil, Then, Node, Last, Before, after_container}
use Rattle.first_pass_grammar.proofs.Common.{before_end, Continues, Line, Inside, Opening, OpensLeaf, OpensNode, OpensBy, OpensFootnote, Opens, Level}
use Rattle.first_pass_grammar.proofs.Common.{level, Remaining, Lines, InLine, may_define, ends_old_footnote, onward, only_blanks, end_of_left, end_before}
use Rattle.first_pass_grammar.proofs.Common.{IsFirst, IsSequence, ItemsOf, Rows, any_gap, rows_of, LinkEntry, with_link, with_links, with_label}
use Rattle.first_pass_grammar.proofs.Common.{with_labels, Tables, with_definitions, definitions_of, footnotes_of, with_all_of, ended, Closed, Pending}
use Rattle.first_pass_grammar.proofs.Common.{NoList, OneList, rows_beyond, rendered, Frame, InContainer, InList, InDefinitions, closed_as, definitions_open}
use Rattle.first_pass_grammar.proofs.Common.{containers_of, loosened, AreBelow, IsPlain, IsShaped, last_plain, last_of, length-modify}
use Rattle.first_pass_grammar.specs.declared.kind.Container.{Container}
use Rattle.first_pass_grammar.specs.Before.{last_container}
use Rattle.first_pass_grammar.proofs.Sequences.Finishes.{Finish, containers-loosened, Tail, before_of, finish_derives, completes_by}
use Rattle.first_pass_grammar.proofs.Sequences.Goings.{begins_inside, enters}
use Rattle.first_pass_completion.proofs.States.{OpenNodes, open_nodes, CompletesFrom, Reading, reading, reading_at, IsCompleted, IsStep}

-- blank lines that include a counting one or not, after the last child
abbrev pub tail : Closed → Bool → Tail
tail closed run = record { closed = closed; run = run }

-- the containers of open nodes, and what precedes the next block in them
abbrev pub lvl : List Frame → Tail → Level
lvl frames t = level (containers_of frames) (before_of frames t)

-- Completions of equal states are the same.
pub finish_moved : (d : Document) (r : Reading) (before : Before) (frames : List Frame) (nodes : List (ℕ × Item))
    → r.before ≡ before → r.frames ≡ frames → r.nodes ≡ nodes → IsStep d (record r { before = before; frames = frames; nodes = nodes }) r
finish_moved d r before frames nodes stand same alike forest tables fin = rw (stand, same, alike) at fin

-- A blank line before a block in the innermost container makes the list around that container loose.
abbrev pub loosened_in : Bool → List Frame → List Frame
loosened_in gap [] = []
loosened_in gap (frame ∷ frames) = frame ∷ loosened gap frames

pub length-ended : (nodes : List (ℕ × Item)) (place e : ℕ) → length (ended nodes place e) ≡ length nodes
unfolding ended
length-ended nodes place e = length-modify nodes place (λ x. record { start = x.start; «end» = e; body = x.body })

pub AreBelow-more : (n m : ℕ) (places : List ℕ) → n ≤ m → AreBelow n places → AreBelow m places
AreBelow-more n m [] h b = tt
AreBelow-more n m (o ∷ os) h b = (let p : o < n = b.0 in omega arith, b.1)

pub loosened-false : (frames : List Frame) → loosened false frames ≡ frames
loosened-false (InList byte true ∷ frames) = refl
loosened-false (InDefinitions true ∷ frames) = refl
loosened-false frames = refl

pub loosened_in-false : (frames : List Frame) → loosened_in false frames ≡ frames
loosened_in-false [] = refl
loosened_in-false (frame ∷ frames) = ap (λ z. frame ∷ z) (loosened-false frames)

loosened-twice : (g h : Bool) (frames : List Frame) → loosened h (loosened g frames) ≡ loosened (g || h) frames
loosened-twice g h (InList byte true ∷ frames) = refl
loosened-twice g h (InDefinitions true ∷ frames) = refl
loosened-twice g h frames = refl

pub plain_loosened : (gap : Bool) (frames : List Frame) → IsPlain frames → loosened gap frames ≡ frames
plain_loosened gap (InList byte loose ∷ frames) h = absurd h
plain_loosened gap (InDefinitions loose ∷ frames) h = absurd h
plain_loosened gap frames h = refl

-- the last block if no list is innermost
pub plain_last : (closed : Closed) (frames : List Frame) → IsPlain frames → last_of frames closed ≡ last_plain closed
plain_last closed (InList byte loose ∷ frames) h = absurd h
plain_last closed (InDefinitions loose ∷ frames) h = absurd h
plain_last closed frames h = refl

-- what precedes the next block, after the last block and blank lines
abbrev pub stands_after : Last → Bool → Before
stands_after last run = record { last = last; counted = run }

pub plain_before : (t : Tail) (frames : List Frame) → IsPlain frames → before_of frames t ≡ stands_after (last_plain t.closed) t.run
plain_before t frames plain = ap (λ z. stands_after z t.run) (plain_last t.closed frames plain)

-- if more than blank lines may follow, the container of these blocks ends where they leave the lines
abbrev pub EndsAt : ℕ → Continues → Remaining → ℕ → Type 0
EndsAt n from mid last = only_blanks from ≡ None → last ≡ end_of_left n [] None mid

end_anywhere : (n : ℕ) (path : List Container) (left : Remaining) → end_of_left n path None left ≡ end_of_left n [] None left
end_anywhere n path (Lines lines) = refl
end_anywhere n path (InLine p lines) = refl

-- What a block, or the end of a list, adds: the same items, the same count for blank lines at the end, and the same
-- gaps together with one that is noted.
pub record Adds (d : Document) (old new : Reading) (gap : Bool) (s t : Skeleton) (mid : Remaining) : Type 0 where
  pub seq : IsSequence d t (level (containers_of old.frames) old.before) old.from old.lines mid
  pub items : (last : ℕ) → EndsAt (length d.text) old.from mid last
      → rendered (suc (length old.places)) last old.nodes old.list (rows_of (in_quote (containers_of old.frames)) old.before last t)
      ≡ rendered (suc (length old.places)) last new.nodes new.list (rows_of (in_quote (containers_of old.frames)) new.before last s)
  pub counts : (before_end (in_quote (containers_of old.frames)) old.before t).counted ≡ (before_end (in_quote (containers_of old.frames)) new.before s).counted
  pub gaps : (last : ℕ) → any_gap (rows_beyond old.list (rows_of (in_quote (containers_of old.frames)) old.before last t))
      ≡ (gap || any_gap (rows_beyond new.list (rows_of (in_quote (containers_of old.frames)) new.before last s)))

-- a container ends at the same place, wherever the blocks in it continue
abbrev pub EndsAlike : ℕ → Continues → Continues → Type 0
EndsAlike n from there = (path : List Container) (mid : Remaining) → end_before n path from mid ≡ end_before n path there mid

-- tables with more definitions added, one list after the other
told_links : (links a b : List LinkEntry) → with_links links (a ++ b) ≡ with_links (with_links links a) b
unfolding with_links
told_links links [] b = refl
told_links links (x ∷ a) b = told_links (with_link x links) a b

told_labels : (labels a b : List (List ℕ)) → with_labels labels (a ++ b) ≡ with_labels (with_labels labels a) b
unfolding with_labels
told_labels labels [] b = refl
told_labels labels (x ∷ a) b = told_labels (with_label x labels) a b

pub told-append : (defined : Tables) (a b : List LinkEntry) → with_definitions (with_definitions defined a) b ≡ with_definitions defined (a ++ b)
told-append defined a b = rw (told_links defined.links a b) refl

-- what a leaf block before a sequence defines
pub told_leaf : (defined : Tables) (b : LeafBlock) (s : Skeleton)
    → with_all_of (with_definitions defined b.definitions) s ≡ with_all_of defined (Then (Block b) s)
unfolding definitions_of footnotes_of
told_leaf defined b s = rw (told_links defined.links b.definitions (definitions_of s)) refl

-- the tables with the label of a container, if it has one; the next lemma: what that container and its blocks define
abbrev pub labelled : Tables → Head → Tables
labelled defined head = record { links = defined.links; footnotes = with_labels defined.footnotes (label_of head.opener) }

pub told_node : (defined : Tables) (head : Head) (e : ℕ) (kids s : Skeleton)
    → with_all_of (with_all_of (labelled defined head) kids) s ≡ with_all_of defined (Node head e kids s)
unfolding definitions_of footnotes_of
told_node defined head e kids s = grind (arith, told_links, told_labels)

-- Blocks that lead from one state to another: with them before it, each sequence of the second state is a sequence of
-- the first, and both have the same nodes, gaps and definitions.
pub record AddsBlocks (d : Document) (old new : Reading) (gap : Bool) (f : Skeleton → Skeleton) : Type 0 where
  pub plain : IsPlain old.frames
  pub ends : EndsAlike (length d.text) old.from new.from
  pub adds : (s : Skeleton) (mid : Remaining) → IsSequence d s (level (containers_of old.frames) new.before) new.from new.lines mid
      → Adds d old new gap s (f s) mid
  pub defines : (s : Skeleton) → with_all_of new.defined s ≡ with_all_of old.defined (f s)

-- the step, by the innermost open node
extend_by : (d : Document) (frames : List Frame) (os : List ℕ) (old new : Reading) (gap : Bool) (f : Skeleton → Skeleton)
    → AddsBlocks d (record old { frames = frames; places = os }) new gap f
    → IsStep d (record old { frames = frames; places = os }) (record new { frames = loosened_in gap frames; places = os })
unfolding Finish
extend_by d [] [] old new gap f h forest tables (s, seq, is, tables_are) =
    let a = h.adds s (Lines []) seq in (f s, a.seq, is ∙ sym (a.items (length d.text) (λ line. refl)), tables_are ∙ h.defines s)
extend_by d [] (o ∷ os) old new gap f h forest tables fin = fin
extend_by d (InContainer c ∷ frames) [] old new gap f h forest tables fin = fin
extend_by d (InList byte loose ∷ frames) os old new gap f h forest tables fin = absurd h.plain
extend_by d (InDefinitions loose ∷ frames) os old new gap f h forest tables fin = absurd h.plain
extend_by d (InContainer c ∷ frames) (o ∷ os) old new gap f h forest tables (s, mid, seq, fin) =
    let path : List Container = containers_of frames in
    let a = h.adds s mid (subst (λ p. IsSequence d s (level (c ∷ p) new.before) new.from new.lines mid) (containers-loosened gap frames) seq) in
    let same : end_before (length d.text) (containers_of (loosened gap frames)) new.from mid ≡ end_before (length d.text) path old.from mid =
    ap (λ p. end_before (length d.text) p new.from mid) (containers-loosened gap frames) ∙ sym (h.ends path mid) in
    let e : ℕ = end_before (length d.text) path old.from mid in
    let at : EndsAt (length d.text) old.from mid e =
    λ none. ap (λ z. end_of_left (length d.text) path z mid) none ∙ end_anywhere (length d.text) path mid in
    let rows : ℕ → Rows = λ last. rows_of (is_quote c) new.before last s in
    let now : Before = after_container c (before_end (is_quote c) new.before s) in
    let outer : Tables → ℕ → Reading = λ defined z.
    reading (open_nodes defined (loosened (any_gap (rows_beyond new.list (rows z))) (loosened gap frames))
    (ended (rendered (suc (length (o ∷ os))) z new.nodes new.list (rows z)) o z) os) (NoList (closed_as c z)) now (onward mid).0 (onward mid).1 in
    let g : loosened (any_gap (rows_beyond new.list (rows e))) (loosened gap frames)
    ≡ loosened (any_gap (rows_beyond old.list (rows_of (is_quote c) old.before e (f s)))) frames =
    loosened-twice gap _ frames ∙ ap (λ z. loosened z frames) (sym (a.gaps e)) in (
      f s,
      mid,
      a.seq,
      finish_moved d (outer (with_all_of old.defined (f s)) e) _ _ _ (ap (λ z. record { last = last_container c; counted = z }) (sym a.counts)) g
          (ap (λ z. ended z o e) (sym (a.items e at))) forest tables
          (subst (λ z. IsCompleted d (outer z e) forest tables) (h.defines s)
          (subst (λ z. IsCompleted d (outer (with_all_of new.defined s) z) forest tables) same fin)),
    )

-- A step that adds blocks, and may note a gap before them.
pub extend : (d : Document) (old new : Reading) (gap : Bool) (f : Skeleton → Skeleton) → AddsBlocks d old new gap f
    → IsStep d old (record new { frames = loosened_in gap old.frames; places = old.places })
extend d old new gap f h = extend_by d old.frames old.places old new gap f h

-- the same if it notes none
pub extend_same : (d : Document) (old new : Reading) (f : Skeleton → Skeleton) → AddsBlocks d old new false f
    → IsStep d old (record new { frames = old.frames; places = old.places })
extend_same d old new f h forest tables fin = search (extend, loosened_in-false)

-- each open node is before the one inside it, and may be directly in the one around it
abbrev pub AreNested : OpenNodes → Type 0
AreNested w = AreBelow (length w.nodes) w.places × IsShaped w.frames

-- A step keeps what completes the open nodes.
pub stepped : (d : Document) (w now : OpenNodes) (t u : Tail) (from there : Continues) (lines left : List Place)
    → CompletesFrom d w t from lines → IsStep d (reading_at w t from lines) (reading_at now u there left)
    → AreNested now → CompletesFrom d now u there left
stepped d w now t u from there lines left k step nested = search (completes_by, finish_derives)

-- A block that begins inside a line also begins at the line.
enter_first : (d : Document) (l : Level) (line q : Place) (lines : List Place) (opening : Opening) → taken l.path line ≡ Some q
    → ends_old_footnote l ≡ false → IsFirst d l (Inside q) lines opening → IsFirst d l Line (line ∷ lines) opening
enter_first d l line q lines opening is old first =
    record { place = first.place; following = first.following; begins = enters d.options l line q lines is old ∙ first.begins; opens = first.opens }

enter_seq : (d : Document) (s : Skeleton) (l : Level) (line q : Place) (lines : List Place) (left : Remaining) → taken l.path line ≡ Some q
    → ends_old_footnote l ≡ false → IsSequence d s l (Inside q) lines left → IsSequence d s l Line (line ∷ lines) left
unfolding IsSequence
enter_seq d Nil l line q lines left is old seq = enters d.options l line q lines is old ∙ seq
enter_seq d (Then leaf next) l line q lines left is old (there, mid, first, seq) = grind (arith, enter_first, lines, seq)
enter_seq d (Node head e kids next) l line q lines left is old (inside, following, mid, first, inner, ends, seq) = search enter_first

-- The open nodes are completed at the start of a line as after the markers of the containers that it continues.
pub enter_step : (d : Document) (defined : Tables) (frames : List Frame) (list : Pending) (before : Before) (nodes : List (ℕ × Item)) (os : List ℕ)
    (line q : Place) (lines : List Place) → taken (containers_of frames) line ≡ Some q → ends_old_footnote (level (containers_of frames) before) ≡ false
    → (let w : OpenNodes = open_nodes defined frames nodes os in
    IsStep d (reading w list before Line (line ∷ lines)) (reading w list before (Inside q) lines))
unfolding Finish
enter_step d defined [] list before nodes [] line q lines is old forest tables (s, seq, forest_is, tables_are) = grind (arith, enter_seq, lines, seq)
enter_step d defined (InList byte loose ∷ frames) list before nodes (o ∷ os) line q lines is old forest tables fin =
    enter_step d defined frames (OneList o (ItemsOf byte) loose) before nodes os line q lines is old forest tables fin
enter_step d defined (InDefinitions loose ∷ frames) list before nodes (o ∷ os) line q lines is old forest tables fin =
    enter_step d defined frames (definitions_open o loose list) before nodes os line q lines is old forest tables fin
enter_step d defined (InContainer c ∷ frames) list before nodes (o ∷ os) line q lines is old forest tables (s, mid, seq, fin) = search enter_seq
enter_step d defined frames list before nodes os line q lines is old forest tables fin = fin

-- no innermost footnote definition ends at a place
abbrev pub StaysAt : Document → List Container → Place → Type 0
StaysAt d path p = ends_footnote (around d path) p ≡ false

-- the same if no other one begins there, and outside of footnote definitions
pub stays_without : (d : Document) (path : List Container) (p : Place) → footnote_head_at (around d path) p ≡ None → StaysAt d path p
stays_without d path p none = ap (λ (o : Option (ℕ × List ℕ)). in_footnote path && is_some o) none ∙ and-false (in_footnote path)

pub stays_outside : (d : Document) (path : List Container) (p : Place) → in_footnote path ≡ false → StaysAt d path p
stays_outside d path p out = ap (λ (b : Bool). b && is_some (footnote_head_at (around d path) p)) out

-- the label of a container that opens, if it has one
abbrev pub label_opened : Opening → List (List ℕ)
label_opened (OpensLeaf leaf there left) = []
label_opened (OpensNode head inside following) = label_of head.opener

no_head : (d : Document) (l : Level) (p : Place) (lines : List Place) (head : Option (ℕ × List ℕ)) (o : Opening) → label_opened o ≡ []
    → MatchOption head (OpensBy d l.path p lines (start_at d.options (may_define d l) p) o) (λ h. OpensFootnote d p lines h o) → head ≡ None
unfolding OpensFootnote
no_head d l p lines None o none opens = refl
no_head d l p lines (Some (size, label)) o none (index, named, is) = let both : [] ≡ label ∷ [] = sym none ∙ ap label_opened is in cc

-- the same if something else begins
pub opens_stays : (d : Document) (l : Level) (p : Place) (lines : List Place) (o : Opening) → label_opened o ≡ [] → Opens d l p lines o → StaysAt d l.path p
opens_stays d l p lines o none opens = stays_without d l.path p (no_head d l p lines (footnote_head_at (around d l.path) p) o none opens)

pub first_here : (d : Document) (l : Level) (p : Place) (lines : List Place) (opening : Opening)
    → StaysAt d l.path p → Opens d l p lines opening → IsFirst d l (Inside p) lines opening
first_here d l p lines opening stays opens = search begins_inside

-- a block that opens inside a line: the place, the lines after its line, and what opens
pub record OpensAtPlace (d : Document) (l : Level) : Type 0 where
  pub place : Place
  pub lines : List Place
  pub opening : Opening
  pub stays : StaysAt d l.path place
  pub opens : Opens d l place lines opening

-- a container with this head opens inside a line: the place and the lines after its line, and where its blocks begin
-- and the lines from there on
pub record OpensContainer (d : Document) (l : Level) (head : Head) : Type 0 where
  pub place : Place
  pub lines : List Place
  pub inside : Continues
  pub following : List Place
  pub opens : Opens d l place lines (OpensNode head inside following)

-- no footnote definition ends there if that container has no label
pub container_stays : (d : Document) (l : Level) (head : Head) (b : OpensContainer d l head) → label_of head.opener ≡ [] → StaysAt d l.path b.place
container_stays d l head b none = opens_stays d l b.place b.lines (OpensNode head b.inside b.following) none b.opens

pub alike_onward : (n : ℕ) (p : Place) (left : Remaining) → EndsAlike n (Inside p) (onward left).0
alike_onward n p (Lines lines) path mid = refl
alike_onward n p (InLine q lines) path mid = refl
