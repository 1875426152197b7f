-- The frames of the open nodes, as the tree grows and nodes are closed.
use Rattle.std.proofs.Common.{◌≡◌, ℕ, zero, suc, ◌<◌, Bool, true, false, List, [], ◌∷◌, ◌++◌, length, map, Option, Some, IfSome, not, refl, ap, subst, ◌∙◌}
use Rattle.std.proofs.Common.{arith, option_and_then, ◌==◌, if◌then◌else◌, None}
use Rattle.first_pass_grammar.proofs.Common.{Item, ItemBody, DefinitionList, DefinitionListDefinition, TreeIndex, map_from, body_at, tightened, ended}
use Rattle.first_pass_grammar.proofs.Common.{list_closed, Frame, InContainer, InList, InDefinitions, containers_of, AreBelow, ListFlags, list_flags}
use Rattle.first_pass_grammar.proofs.Common.{body-kept, body-other, Options, nat_tests}
use Rattle.first_pass_items.specs.declared.item.ItemBody.TheVariants.{BlockQuote as BlockQuoteBody, List as ListBody, ListItem as ListItemBody}
use Rattle.first_pass_items.specs.declared.item.ItemBody.TheVariants.{FootnoteDefinition as FootnoteDefinitionBody}
use Rattle.first_pass_grammar.specs.declared.kind.Container.{Container}
use Rattle.first_pass_open.specs.Path.{container_of, with_container, path_in}
use Rattle.first_pass_ready.specs.State.{list_frame, frame_of, frame_at, AreOpen}
use Rattle.first_pass_grammar.proofs.Names.MoreNames.{get_front}

-- a list of either kind has the flags that its frame shows
listed_by : (of : Bool → Frame) (a b : Bool) (flags : ListFlags) (frame : Frame) → (flags.0 == 1) ≡ a → (flags.0 == 0) ≡ b
    → (if a then Some (of false) else (if b then Some (of true) else None)) ≡ Some frame
    → (loose : Bool) × (flags ≡ list_flags (not loose)) × (of loose ≡ frame)
listed_by of true b flags frame s t h = let x : flags.0 ≡ 1 = grind (arith, nat_tests, s) in (false, ap (λ n. record { 0 = n }) x, cc)
listed_by of false true flags frame s t h = let x : flags.0 ≡ 0 = grind (arith, nat_tests, t) in (true, ap (λ n. record { 0 = n }) x, cc)
listed_by of false false flags frame s t h = cc

listed : (of : Bool → Frame) (flags : ListFlags) (frame : Frame) → list_frame of flags.0 ≡ Some frame
    → (loose : Bool) × (flags ≡ list_flags (not loose)) × (of loose ≡ frame)
listed of flags frame h = listed_by of (flags.0 == 1) (flags.0 == 0) flags frame refl refl h

-- the body of a node with this frame
abbrev pub HasFrame : Options → Option ItemBody → Frame → Type 0
HasFrame options b (InContainer c) = option_and_then (container_of options) b ≡ Some c
HasFrame options b (InList byte loose) = (number : ℕ) × (b ≡ Some (ListBody (list_flags (not loose)) byte number))
HasFrame options b (InDefinitions loose) = b ≡ Some (DefinitionList (list_flags (not loose)))

pub has_frame : (options : Options) (b : Option ItemBody) (frame : Frame) → option_and_then (frame_of options) b ≡ Some frame → HasFrame options b frame
has_frame options (Some (BlockQuoteBody kind)) frame h = subst (λ z. IfSome z (HasFrame options (Some (BlockQuoteBody kind)))) h refl
has_frame options (Some (ListItemBody columns)) frame h = subst (λ z. IfSome z (HasFrame options (Some (ListItemBody columns)))) h refl
has_frame options (Some (FootnoteDefinitionBody label)) frame h = subst (λ z. IfSome z (HasFrame options (Some (FootnoteDefinitionBody label)))) h refl
has_frame options (Some (DefinitionListDefinition columns)) frame h = subst (λ z. IfSome z (HasFrame options (Some (DefinitionListDefinition columns)))) h refl
has_frame options (Some (ListBody flags byte number)) frame h =
    let l = listed (InList byte) flags frame h in
    subst (HasFrame options (Some (ListBody flags byte number))) l.2 (number, ap (λ z. Some (ListBody z byte number)) l.1)
has_frame options (Some (DefinitionList flags)) frame h = grind (arith, listed)
has_frame options b frame h = cc

pub container_frame : (options : Options) (b : Option ItemBody) (frame : Frame) (c : Container) → option_and_then (container_of options) b ≡ Some c
    → HasFrame options b frame → frame ≡ InContainer c
container_frame options b frame c is h = grind (arith, is, h)

pub definitions_frame : (options : Options) (flags : ListFlags) (frame : Frame) → HasFrame options (Some (DefinitionList flags)) frame
    → (loose : Bool) × (frame ≡ InDefinitions loose) × (flags ≡ list_flags (not loose))
definitions_frame options flags (InContainer c) h = cc
definitions_frame options flags (InList byte loose) h = (let list = h.1 in cc)
definitions_frame options flags (InDefinitions loose) h = (loose, refl, cc)

with_frame : (options : Options) (b : Option ItemBody) (frame : Frame) (frames : List Frame) → HasFrame options b frame
    → with_container (option_and_then (container_of options) b) (containers_of frames) ≡ containers_of (frame ∷ frames)
with_frame options b frame frames h = grind (arith, h)

-- the containers of the frames are those of the path
pub open_path : (options : Options) (nodes : List (ℕ × Item)) (spine : List TreeIndex) (frames : List Frame)
    → AreOpen options nodes spine frames → path_in options nodes spine ≡ containers_of frames
open_path options nodes [] [] o = refl
open_path options nodes (ix ∷ spine) (frame ∷ frames) o = grind (arith, with_frame, has_frame, open_path options nodes spine frames o.1)
open_path options nodes spine frames o = absurd o

-- only the nodes before a place matter
pub open_below : (options : Options) (nodes other : List (ℕ × Item)) (n : ℕ) (spine : List TreeIndex) (frames : List Frame)
    → ((i : ℕ) → i < n → frame_at options other i ≡ frame_at options nodes i) → AreBelow n (map (λ ix. ix.0) spine)
    → AreOpen options nodes spine frames → AreOpen options other spine frames
open_below options nodes other n (ix ∷ spine) (frame ∷ frames) same below o =
    let b : ix.0 < n = below.0 in
    (same ix.0 b ∙ o.0, open_below options nodes other ix.0 spine frames (λ i h. same i (omega arith)) below.1 o.1, o.2)
open_below options nodes other n spine frames same below o = o

-- more nodes
pub frame-append : (options : Options) (nodes more : List (ℕ × Item)) (i : ℕ) → i < length nodes
    → frame_at options (nodes ++ more) i ≡ frame_at options nodes i
frame-append options nodes more i h = grind (arith, get_front)

body-front : (nodes : List (ℕ × Item)) (o i depth : ℕ) → i < o → body_at (map_from (tightened depth) o nodes) i ≡ body_at nodes i
body-front nodes zero i depth h = absurd (omega arith)
body-front (n ∷ nodes) (suc o) (suc i) depth h = body-front nodes o i depth (omega arith)
body-front nodes (suc o) i depth h = refl

-- a closed list
pub frame-closed : (options : Options) (nodes : List (ℕ × Item)) (o depth : ℕ) (loose : Bool) (e i : ℕ) → i < o
    → frame_at options (list_closed nodes o depth loose e) i ≡ frame_at options nodes i
unfolding list_closed
frame-closed options nodes o depth true e i h = ap (option_and_then (frame_of options)) (body-other nodes o i _ h)
frame-closed options nodes o depth false e i h = grind (arith, body-other, body-front)

-- a node with its end
pub frame-ended : (options : Options) (nodes : List (ℕ × Item)) (place e i : ℕ) → frame_at options (ended nodes place e) i ≡ frame_at options nodes i
unfolding ended
frame-ended options nodes place e i = ap (option_and_then (frame_of options)) (body-kept nodes place i _ (λ x. refl))

-- the first of further nodes
pub body_after : (nodes more : List (ℕ × Item)) → body_at (nodes ++ more) (length nodes) ≡ body_at more 0
body_after [] more = refl
body_after (n ∷ nodes) more = body_after nodes more

pub get_end : (nodes : List (ℕ × Item)) (x : ℕ × Item) (more : List (ℕ × Item)) (i : ℕ) → i ≡ length nodes → body_at (nodes ++ x ∷ more) i ≡ Some x.1.body
get_end nodes x more i at = ap (body_at (nodes ++ x ∷ more)) at ∙ body_after nodes (x ∷ more)
