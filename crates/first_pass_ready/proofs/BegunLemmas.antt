-- A container is opened in the tree, after the nodes that are already open.
use Rattle.std.proofs.Common.{◌≡◌, ℕ, suc, ◌+◌, Bool, false, List, [], ◌∷◌, ◌++◌, length, map, Option, Some, None, refl, ap, subst, ◌∙◌, arith}
use Rattle.std.proofs.Common.{option_and_then}
use Rattle.first_pass_grammar.proofs.Common.{length-map, Item, ItemBody, DefinitionList, Options, TreeIndex, Forest, IsForest, IsOpenPath, IsLastAt, depths}
use Rattle.first_pass_grammar.proofs.Common.{body_at, in_table, appended, pushed, Place, Document, around, footnote_head_at, Start, start_at, Continues}
use Rattle.first_pass_grammar.proofs.Common.{Opening, Level, may_define, opening_of, OpensBy, Opens, Tables, OtherClosed, Frame, InContainer, containers_of}
use Rattle.first_pass_grammar.proofs.Common.{AreBelow, IsPlain, last-order}
use Rattle.first_pass_tree.specs.Forest.{in_table_by}
use Rattle.first_pass_grammar.specs.declared.kind.Container.{Container}
use Rattle.first_pass_completion.proofs.Completions.{fresh}
use Rattle.first_pass_grammar.proofs.Sequences.Finishes.{CompletesAt}
use Rattle.first_pass_open.specs.Path.{path_of}
use Rattle.first_pass_lists.specs.Closing.{top_body, is_list}
use Rattle.first_pass_lists.specs.declared.state.PassState.{PassState}
use Rattle.first_pass_ready.specs.State.{is_footnote_in_another, frame_of, AreOpen, closed_none, closed_in, ReadyAt}
use Rattle.first_pass_ready.proofs.ClosedIn.{plain_top, top_of}
use Rattle.first_pass_ready.proofs.OpenLemmas.{open_path, open_below, HasFrame, has_frame, frame-append, get_end}
use Rattle.first_pass_ready.proofs.PopLemmas.{ready_as}
use Rattle.first_pass_lists.proofs.MovedLemmas.{current_is_last}

-- a node that is opened after others
pub opened_too : (options : Options) (nodes : List (ℕ × Item)) (k : ℕ) (x : Item) (s : List TreeIndex) (frames : List Frame) (frame : Frame)
    → frame_of options x.body ≡ Some frame → is_footnote_in_another frame frames ≡ false → AreBelow (length nodes) (map (λ ix. ix.0) s)
    → AreOpen options nodes s frames
    → AreOpen options (nodes ++ (k, x) ∷ []) (record { 0 = length nodes } ∷ s) (frame ∷ frames)
opened_too options nodes k x s frames frame is apart below o = (
  ap (option_and_then (frame_of options)) (get_end nodes (k, x) [] (length nodes) refl) ∙ is,
  open_below options nodes (nodes ++ (k, x) ∷ []) (length nodes) s frames (λ i h. frame-append options nodes ((k, x) ∷ []) i h) below o,
  apart,
)

pub depth_of : (s : List TreeIndex) → suc (length (map (λ (i : TreeIndex). i.0) s)) ≡ length s + 1
depth_of s = let k = length-map s (λ (i : TreeIndex). i.0) in omega arith

-- an innermost node whose frame is a container has no child yet
none_there : (options : Options) (b : ItemBody) (c : Container) → HasFrame options (Some b) (InContainer c) → closed_none (Some b) ≡ OtherClosed
none_there options (DefinitionList flags) c h = cc
none_there options b c h = refl

-- the tree with an item opened in the innermost open node
abbrev pub with_open : Forest Item → Item → Forest Item
with_open f x = pushed (appended f x) (record { 0 = length f.nodes })

pub top_opened : (f : Forest Item) (x : Item) → top_body (with_open f x) ≡ Some x.body
top_opened f x = get_end f.nodes (length f.spine + 1, x) [] (length f.nodes) refl

-- a container is open, and has no child yet
pub record IsBegun (d : Document) (defined : Tables) (f : Forest Item) (c : Container) (from : Continues) (lines : List Place) (path : List Container)
    : Type 0 where
  pub ready : ReadyAt d defined f false from lines
  pub path_is : path_of d.options f ≡ c ∷ path

-- the state after a container is opened
pub record HasBegun (d : Document) (defined : Tables) (old new : PassState) (c : Container) (from : Continues) (lines : List Place) : Type 0 where
  pub is_begun : IsBegun d defined new.tree c from lines (path_of d.options old.tree)
  pub blank : new.blank ≡ false
  pub none : new.begin_list_item ≡ None

pub begun_ready : (d : Document) (defined : Tables) (f : Forest Item) (x : Item) (c : Container) (frames : List Frame) (from : Continues) (lines : List Place)
    → frame_of d.options x.body ≡ Some (InContainer c) → is_footnote_in_another (InContainer c) frames ≡ false
    → AreOpen d.options f.nodes f.spine frames
    → CompletesAt d defined fresh (InContainer c ∷ frames) (f.nodes ++ (suc (length (map (λ (i : TreeIndex). i.0) f.spine)), x) ∷ [])
    (length f.nodes ∷ map (λ (i : TreeIndex). i.0) f.spine) from lines
    → IsBegun d defined (with_open f x) c from lines (containers_of frames)
begun_ready d defined f x c frames from lines is apart o k =
    let g : Forest Item = with_open f x in
    let os : List ℕ = map (λ (i : TreeIndex). i.0) f.spine in
    let none : closed_in g ≡ OtherClosed =
    ap closed_none (top_opened f x) ∙ none_there d.options x.body c (has_frame d.options (Some x.body) (InContainer c) is) in
    let open_now = opened_too d.options f.nodes (length f.spine + 1) x f.spine frames (InContainer c) is apart k.below.1 o in
    record {
      ready = ready_as d defined g false from lines (InContainer c ∷ frames) OtherClosed none open_now tt
          (subst (λ z. CompletesAt d defined fresh (InContainer c ∷ frames) (f.nodes ++ (z, x) ∷ []) (length f.nodes ∷ os) from lines) (depth_of f.spine) k);
      path_is = open_path d.options g.nodes g.spine (InContainer c ∷ frames) open_now;
    }

-- what begins if no footnote definition does
pub opens_bare : (d : Document) (l : Level) (p : Place) (lines : List Place) (opening : Opening)
    → footnote_head_at (around d l.path) p ≡ None → OpensBy d l.path p lines (start_at d.options (may_define d l) p) opening → Opens d l p lines opening
opens_bare d l p lines opening bare h = rw bare h

-- the start of a container opens it
pub opens_start : (d : Document) (l : Level) (p : Place) (lines : List Place) (s : Start) → footnote_head_at (around d l.path) p ≡ None
    → start_at d.options (may_define d l) p ≡ Some s → Opens d l p lines (opening_of d l.path p lines s)
unfolding OpensBy
opens_start d l p lines s bare begins = grind (arith, opens_bare)

-- if the innermost open node is no list, neither is its frame
pub plain_open : (options : Options) (f : Forest Item) (frames : List Frame) → AreOpen options f.nodes f.spine frames → is_list (top_body f) ≡ false
    → IsPlain frames
plain_open options f frames o none = plain_top options (top_body f) frames (top_of options f.nodes f.spine frames o) none

-- the current node is after the open nodes
current_by : (ds : List ℕ) (n c : ℕ) (s : List TreeIndex) → IsOpenPath ds s → IsLastAt ds (length s + 1) c
    → AreBelow n (map (λ (i : TreeIndex). i.0) s) → AreBelow c (map (λ (i : TreeIndex). i.0) s)
current_by ds n c [] path last below = tt
current_by ds n c (ix ∷ s) path last below = (last-order ds (length s + 1) (length (ix ∷ s) + 1) ix.0 c path.0 last (omega arith), below.1)

pub current_after : (f : Forest Item) (c : TreeIndex) → IsForest f → f.current ≡ Some c
    → AreBelow (length f.nodes) (map (λ (i : TreeIndex). i.0) f.spine) → AreBelow c.0 (map (λ (i : TreeIndex). i.0) f.spine)
current_after f c forest current below =
    current_by (depths f.nodes) (length f.nodes) c.0 f.spine forest.opened (current_is_last f c forest current) below

-- If only containers and lists are open, no table is.
no_table_at : (options : Options) (o : Option ItemBody) (frame : Frame) (outer : Bool) → option_and_then (frame_of options) o ≡ Some frame
    → in_table_by outer o ≡ false
no_table_at options o frame outer is = grind (arith, is)

pub no_table : (options : Options) (nodes : List (ℕ × Item)) (spine : List TreeIndex) (frames : List Frame) → AreOpen options nodes spine frames
    → in_table nodes spine ≡ false
no_table options nodes [] frames o = refl
no_table options nodes (ix ∷ spine) [] o = absurd o
no_table options nodes (ix ∷ spine) (frame ∷ frames) o = no_table_at options (body_at nodes ix.0) frame (in_table nodes spine) o.0
