-- The laws on ready states: one can be completed, and already has whole tables. Other lemmas on ready states are in
-- `first_pass_ready`.
use Rattle.std.proofs.Common.{◌≡◌, ℕ, Bool, true, false, List, [], ◌∷◌, length, map, Option, Some, None, refl, sym, ap, ◌∙◌, subst, arith, zero, suc}
use Rattle.std.proofs.Common.{option_and_then}
use Rattle.first_pass_grammar.proofs.Common.{same_Some, none-some, Item, ItemBody, TreeIndex, Forest, body_at, with_body_at, Place, Names, Extends, AreNamed}
use Rattle.first_pass_grammar.proofs.Common.{Document, document, Tables, Continues, Line, Blanks, next_is_blank, NoList, Unfinished, Frame, last_of, Completes}
use Rattle.first_pass_grammar.proofs.Common.{lines_from, InContainer, body-changed, Options, marks, ShowsNothing, AreWholeTables}
use Rattle.first_pass_containers.proofs.Common.{path_of, PassState, extends_none, open_path, AreAt}
use Rattle.first_pass_grammar.specs.Completion.{CanGoOn}
use Rattle.first_pass_exists.proofs.Completed.{line_goes_on, completion_derives}
use Rattle.first_pass_ready.specs.State.{AreOpen, ReadyAt, ReadyBeforeLine, ReadyInItem, ReadyEmpty, ReadyWith, Ready, closed_in, top_without_indent, frame_of}
use Rattle.first_pass_ready.specs.State.{frame_at, StaysReady}
use Rattle.first_pass_containers.specs.Completed.{CompletedAt, CompletedBeforeLine, CompletedInItem, CompletedWith, IsCompleted}
use Rattle.first_pass_ready.proofs.ItemBodies.{item_body, item_own, item_path, without_indent_is, item_container, item_frame}
use Rattle.first_pass_grammar.proofs.Sequences.LinesLeft.{lines_from_at}
use Rattle.first_pass_completion.proofs.SilentNodes.{IsSilent, AreSilent, marks_modified}
use Rattle.first_pass_order.proofs.WholeBefore.{completed_whole, whole_already}
use Rattle.first_pass_grammar.proofs.WholeTables.WholeBlocks.{PlainFrom}
use Rattle.first_pass_grammar.proofs.WholeTables.WholeForests.{whole_same}

-- an open node is a container or a list, and has no part of a table
frame_silent : (options : Options) (b : ItemBody) (frame : Frame) → frame_of options b ≡ Some frame → ShowsNothing b
frame_silent options b frame h = λ names depth start end. grind (arith, h)

open_silent : (options : Options) (nodes : List (ℕ × Item)) (i : ℕ) (frame : Frame) → frame_at options nodes i ≡ Some frame → IsSilent nodes i
open_silent options [] i frame h = absurd (none-some frame h)
open_silent options (n ∷ nodes) zero frame h = frame_silent options n.1.body frame h
open_silent options (n ∷ nodes) (suc i) frame h = open_silent options nodes i frame h

all_silent : (options : Options) (nodes : List (ℕ × Item)) (spine : List TreeIndex) (frames : List Frame) → AreOpen options nodes spine frames
    → AreSilent nodes (map (λ (ix : TreeIndex). ix.0) spine) × (length frames ≡ length (map (λ (ix : TreeIndex). ix.0) spine))
all_silent options nodes [] [] o = (tt, refl)
all_silent options nodes (ix ∷ spine) (frame ∷ frames) o =
    let (silent, size) = all_silent options nodes spine frames o.1 in ((open_silent options nodes ix.0 frame o.0, silent), omega (arith, size))
all_silent options nodes spine frames o = absurd o

-- the frames of open nodes are unique
open_once : (options : Options) (nodes : List (ℕ × Item)) (spine : List TreeIndex) (frames others : List Frame)
    → AreOpen options nodes spine frames → AreOpen options nodes spine others
    → frames ≡ others
open_once options nodes [] [] [] o p = refl
open_once options nodes [] [] (other ∷ others) o p = absurd p
open_once options nodes [] (frame ∷ frames) others o p = absurd o
open_once options nodes (ix ∷ spine) [] others o p = absurd o
open_once options nodes (ix ∷ spine) (frame ∷ frames) [] o p = absurd p
open_once options nodes (ix ∷ spine) (frame ∷ frames) (other ∷ others) o p = grind (arith, same_Some, open_once options nodes spine frames others o.1 p.1)

abbrev unfinished_of : Tables → Forest Item → List Frame → Bool → Unfinished
unfinished_of defined tree frames run = record {
  nodes = tree.nodes;
  list = NoList (closed_in tree);
  before = record { last = last_of frames (closed_in tree); counted = run };
  defined = defined;
}

-- under names that extend the present ones
abbrev IsWholeOnce : Names → List (ℕ × Item) → Type 0
IsWholeOnce names nodes = (more : Names) × Extends more names × AreWholeTables more nodes

-- a state that can be completed; if lines of the text follow, its tables are whole
abbrev AlsoWhole : Document → List Place → List (ℕ × Item) → Type 0 → Type 0
AlsoWhole d lines nodes Completed = Completed × (AreAt d.text lines → IsWholeOnce d.names nodes)

-- ready at a place, under all names
abbrev AlwaysReady : Document → Tables → Forest Item → Bool → Continues → List Place → Type 0
AlwaysReady d defined tree run from lines = (more : Names) → Extends more d.names → ReadyAt (document d.text d.options more) defined tree run from lines

completed_at : (d : Document) (defined : Tables) (tree : Forest Item) (run : Bool) (from : Continues) (lines : List Place)
    → CanGoOn (path_of d.options tree) from → PlainFrom d.text from
    → AlwaysReady d defined tree run from lines → AlsoWhole d lines tree.nodes (CompletedAt d defined tree run from lines)
completed_at d defined tree run from lines can plain ready =
    let now = ready d.names (extends_none d.names) in
    let places : List ℕ = map (λ (ix : TreeIndex). ix.0) tree.spine in
    let unfinished : Unfinished = unfinished_of defined tree now.frames run in
    let always : (more : Names) → Extends more d.names → Completes (document d.text d.options more) now.frames places unfinished from lines =
    λ more x.
    let at_last = ready more x in
    subst (λ z. Completes (document d.text d.options more) z places (unfinished_of defined tree z run) from lines)
    (open_once d.options tree.nodes tree.spine at_last.frames now.frames at_last.are_open now.are_open) at_last.completes in
    let inside = subst (λ z. CanGoOn z from) (open_path d.options tree.nodes tree.spine now.frames now.are_open) can in
    let (silent, size) = all_silent d.options tree.nodes tree.spine now.frames now.are_open in
    let done = completion_derives d now.frames places unfinished from lines size inside always in (
      record { frames = now.frames; are_open = now.are_open; completion = done.0; derives = done.1 },
      λ at. (
        done.0.names,
        done.0.extends,
        completed_whole d now.frames places unfinished from lines plain at silent now.silent done.0 done.1,
      ),
    )

-- an empty item or definition is a container
item_goes_on : (options : Options) (f : Forest Item) (ix : TreeIndex) (rest : List TreeIndex) (b : ItemBody) (n : ℕ) (from : Continues) → f.spine ≡ ix ∷ rest
    → body_at f.nodes ix.0 ≡ Some (item_body b n) → CanGoOn (path_of options f) from
item_goes_on options f ix rest b n from spine item = grind (arith, item_path)

module _ (d : Document) (defined : Tables) (r : PassState) (lines : List Place) (e : ℕ) (empty : ReadyEmpty d defined r e lines) where
  top_is : (b : ItemBody) × (body_at r.tree.nodes empty.place.0 ≡ Some (item_body b empty.columns))
  top_is = item_own (body_at r.tree.nodes empty.place.0) empty.columns empty.item

  continues : (from : Continues) → CanGoOn (path_of d.options r.tree) from
  continues from = item_goes_on d.options r.tree empty.place empty.outer top_is.0 empty.columns from empty.spine top_is.1

  zero_is : top_without_indent r.tree ≡ with_body_at r.tree empty.place (item_body top_is.0 0)
  zero_is = grind (arith, top_is, without_indent_is)

  zero_goes_on : CanGoOn (path_of d.options (top_without_indent r.tree)) (Blanks e)
  zero_goes_on =
      let now : ItemBody = item_body top_is.0 0 in
      let body = body-changed r.tree.nodes empty.place.0 (λ x. record { start = x.start; «end» = x.«end»; body = now }) (item_body top_is.0 empty.columns) now
      top_is.1 (λ x h. refl) in
      subst (λ f. CanGoOn (path_of d.options f) (Blanks e)) (sym zero_is)
      (item_goes_on d.options (with_body_at r.tree empty.place now) empty.place empty.outer top_is.0 0 (Blanks e) empty.spine body)

  without_indent_shows : (names : Names) → marks names (top_without_indent r.tree).nodes ≡ marks names r.tree.nodes
  without_indent_shows names =
      ap (λ (f : Forest Item). marks names f.nodes) zero_is
      ∙ marks_modified names r.tree.nodes empty.place.0 (λ x. record { start = x.start; «end» = x.«end»; body = item_body top_is.0 0 })
      (λ x k. frame_silent d.options (item_body top_is.0 0) _ (item_frame d.options top_is.0 0))
      (open_silent d.options r.tree.nodes empty.place.0 (InContainer (item_container top_is.0 empty.columns))
      (ap (option_and_then (frame_of d.options)) top_is.1 ∙ item_frame d.options top_is.0 empty.columns))

  before_line : (t : Bool) → ((more : Names) → Extends more d.names → ReadyBeforeLine (document d.text d.options more) defined r.tree e lines t)
      → AlsoWhole d lines r.tree.nodes (CompletedBeforeLine d defined r.tree e lines t)
  before_line true ready =
      let zero : Forest Item = top_without_indent r.tree in
      let done = completed_at d defined zero false (Blanks e) lines zero_goes_on tt ready in (
        done.0,
        λ at. let (more, extends, whole) = done.1 at in
            (more, extends, whole_same more zero.nodes r.tree.nodes (sym (without_indent_shows more)) whole),
      )
  before_line false ready = completed_at d defined r.tree false Line lines (line_goes_on (path_of d.options r.tree)) tt ready

  in_item : (blank : Bool)
      → ((more : Names) → Extends more d.names → ReadyInItem (document d.text d.options more) defined r.tree e lines blank)
      → AlsoWhole d lines r.tree.nodes (CompletedInItem d defined r.tree e lines blank)
  in_item true ready = completed_at d defined r.tree true (Blanks e) lines (continues (Blanks e)) tt ready
  in_item false ready = before_line (next_is_blank (path_of d.options r.tree) lines) ready

ready_with : (d : Document) (defined : Tables) (r : PassState) (lines : List Place) (o : Option ℕ)
    → ((more : Names) → Extends more d.names → ReadyWith (document d.text d.options more) defined r lines o)
    → AlsoWhole d lines r.tree.nodes (CompletedWith d defined r lines o)
ready_with d defined r lines None ready = completed_at d defined r.tree r.blank Line lines (line_goes_on (path_of d.options r.tree)) tt ready
ready_with d defined r lines (Some e) ready =
    in_item d defined r lines e (ready d.names (extends_none d.names)) r.blank (λ more x. let empty = ready more x in empty.ready)

pub ready_completed : (d : Document) (defined : Tables) (r : PassState) (lines : List Place)
    → ((more : Names) → Extends more d.names → Ready (document d.text d.options more) defined r lines) → IsCompleted d defined r lines
unfolding Ready IsCompleted
ready_completed d defined r lines ready = (ready_with d defined r lines r.begin_list_item ready).0

pub ready_whole : (d : Document) (defined : Tables) (r : PassState) (start : ℕ)
    → StaysReady d defined r (lines_from d.text start) → AreNamed d.names r.tree.nodes → AreWholeTables d.names r.tree.nodes
unfolding Ready
ready_whole d defined r start ready named =
    let (more, extends, whole) = (ready_with d defined r (lines_from d.text start) r.begin_list_item ready).1 (lines_from_at d.text start) in
    whole_already more d.names r.tree.nodes extends named whole
