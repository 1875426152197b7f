-- A new block ends an innermost list, and notes a blank line before it.
use Rattle.std.proofs.Common.{arith, ◌≡◌, ℕ, ◌<◌, Bool, true, false, not, ◌||◌, List, [], ◌∷◌, map, Option, Some, None, refl, sym, ap, subst, ◌∙◌}
use Rattle.std.proofs.Common.{if◌then◌else◌, option_and_then, length, ◌+◌}
use Rattle.first_pass_grammar.proofs.Common.{option_map_or, Item, ItemBody, DefinitionList, ListFlags, TreeIndex, Forest, IsForest, with_body_at, body_at}
use Rattle.first_pass_grammar.proofs.Common.{Place, Document, is_paragraph_body, Inside, Opening, Opens, Tables, list_flags, flagged, Closed}
use Rattle.first_pass_grammar.proofs.Common.{OtherClosed, ParagraphAt, DefinitionClosed, TitleAt, Frame, InContainer, InList, InDefinitions, IsPlain}
use Rattle.first_pass_grammar.proofs.Common.{StandsIn, SilentClosed, body-other, body-changed, Options, DefinitionListDefinition}
use Rattle.first_pass_grammar.proofs.Common.{MaybeDefinitionListTitle, Before, level, last_plain, cond_both, IsLastAt, IsOpenPath, depths, last-order}
use Rattle.first_pass_items.specs.declared.item.ItemBody.TheVariants.{List as ListBody, Paragraph as ParagraphBody}
use Rattle.first_pass_grammar.specs.declared.kind.Container.{Container}
use Rattle.first_pass_grammar.specs.declared.kind.Container.TheVariants.{Definition}
use Rattle.first_pass_grammar.specs.Before.{definition_may_follow as takes_after}
use Rattle.first_pass_grammar.specs.Completion.{last_defined}
use Rattle.first_pass_grammar.proofs.Sequences.Finishes.{CompletesAt}
use Rattle.first_pass_completion.proofs.Extending.{tail, loosened_in, plain_last}
use Rattle.first_pass_completion.proofs.EarlierNodes.{IsBefore}
use Rattle.first_pass_completion.proofs.Notes.{completes-note}
use Rattle.first_pass_completion.proofs.States.{open_nodes}
use Rattle.first_pass_completion.proofs.TitleNodes.{reflagged}
use Rattle.first_pass_completion.proofs.Flags.{IsListAround, completes-reflag}
use Rattle.first_pass_completion.proofs.SilentNodes.{from_modified, silent_flagged}
use Rattle.first_pass_lists.specs.Closing.{loosened_by, loosened_at, top_body, top_end, is_definition_list, is_list, empty_item_closed_by, empty_item_closed}
use Rattle.first_pass_lists.specs.Closing.{list_closed, gap_tree, list_finished, gap_marked}
use Rattle.first_pass_lists.specs.declared.state.PassState.{PassState}
use Rattle.first_pass_open.specs.Path.{path_of}
use Rattle.first_pass_ready.specs.State.{frame_of, frame_at, is_footnote_in_another, closed_elsewhere, closed_in, AreOpen, ReadyAt, closed_in_definitions}
use Rattle.first_pass_ready.specs.State.{closed_below, closed_none}
use Rattle.first_pass_ready.proofs.OpenLemmas.{open_path, open_below, HasFrame, has_frame}
use Rattle.first_pass_tree.proofs.BodyLemmas.{body-later, changed_alike}
use Rattle.first_pass_ready.proofs.PopLemmas.{list_flags_of, list_no_paragraph, list_no_container, list_popped, list_spine, ready_as, PlainAfter, plain_after}
use Rattle.first_pass_ready.proofs.PopLemmas.{leave_list, at_level}
use Rattle.first_pass_ready.proofs.ClosedIn.{top_of, plain_top, last_below, last_in, level_of, open_level, closed_same, closed_renamed, top_in}
use Rattle.first_pass_ready.proofs.ClosedIn.{top_no_definitions, open_last, closed_cases}
use Rattle.first_pass_ready.proofs.TitlePops.{TitledList, title_closed, leave_title}
pub use Rattle.first_pass_ready.proofs.PopLemmas.{OpensOther, EndsListAt}
use Rattle.first_pass_ready.proofs.StateLemmas.{list_cases, kept_left, same_path, unnamed}
use Rattle.first_pass_completion.proofs.Moved.{takes_alike, other_alike, opens_definition}
use Rattle.first_pass_lists.proofs.MovedLemmas.{current_is_last}

abbrev stands_before : Forest Item → Bool → Before
stands_before f run = record { last = last_in f; counted = run }

-- if a definition may begin after the one tree exactly if after the other
opens_as : (d : Document) (f g : Forest Item) (run later : Bool) (p : Place) (lines : List Place) (o : Opening) → path_of d.options g ≡ path_of d.options f
    → takes_after (last_in f) ≡ takes_after (last_in g) → Opens d (level_of d.options f run) p lines o → Opens d (level_of d.options g later) p lines o
opens_as d f g run later p lines o path takes opens =
    let alike = takes_alike d (path_of d.options f) (stands_before f run) (stands_before g later) p takes in
    subst (λ z. Opens d (level z (stands_before g later)) p lines o) (sym path) (alike.to lines o opens)

-- if none may begin after the other, and the opening is none
opens_none : (d : Document) (f g : Forest Item) (run later : Bool) (p : Place) (lines : List Place) (o : Opening)
    → path_of d.options g ≡ path_of d.options f
    → opens_definition o ≡ false → takes_after (last_in g) ≡ false → Opens d (level_of d.options f run) p lines o
    → Opens d (level_of d.options g later) p lines o
opens_none d f g run later p lines o path other none opens =
    let alike = other_alike d (path_of d.options f) (stands_before f run) (stands_before g later) p lines o other none opens in
    subst (λ z. Opens d (level z (stands_before g later)) p lines o) (sym path) (alike.to lines o opens)

-- the last child if no list is innermost
plain_last_in : (options : Options) (f : Forest Item) (frames : List Frame) (closed : Closed) → AreOpen options f.nodes f.spine frames → IsPlain frames
    → closed_in f ≡ closed → last_in f ≡ last_plain closed
plain_last_in options f frames closed o plain is =
    sym (open_last options f.nodes f.spine frames (closed_in f) o) ∙ plain_last (closed_in f) frames plain ∙ ap last_plain is

none_before : (o : ℕ) (top : Option ItemBody) → IsBefore o (closed_none top)
none_before o (Some (DefinitionList flags)) = tt
none_before o b = tt

definitions_before : (o e place x : ℕ) (b : ItemBody) → IsBefore o (closed_in_definitions e place x b)
definitions_before o e place x MaybeDefinitionListTitle = tt
definitions_before o e place x (DefinitionListDefinition columns) = tt
definitions_before o e place x b = tt

elsewhere_before : (o place : ℕ) (b : ItemBody) → o < place → IsBefore o (closed_elsewhere place b)
elsewhere_before o place ParagraphBody h = h
elsewhere_before o place b h = tt

below_before : (o e place : ℕ) (top : Option ItemBody) (x : Item) → o < place → IsBefore o (closed_below e top place x)
below_before o e place (Some (DefinitionList flags)) x h = definitions_before o e place x.«end» x.body
below_before o e place top x h = elsewhere_before o place x.body h

-- an open node less deep than the innermost one is before the current node
before_current : (f : Forest Item) (o c : TreeIndex) (depth : ℕ) → IsForest f → IsLastAt (depths f.nodes) depth o.0 → depth < length f.spine + 1
    → f.current ≡ Some c → o.0 < c.0
before_current f o c depth forest l less current =
    last-order (depths f.nodes) depth (length f.spine + 1) o.0 c.0 l (current_is_last f c forest current) less

-- the open node around the innermost one is before the last child of that
open_before : (f : Forest Item) (ix jx : TreeIndex) (s : List TreeIndex) → IsForest f → f.spine ≡ ix ∷ jx ∷ s → IsBefore jx.0 (closed_in f)
open_before f ix jx s forest spine =
    let opened : IsOpenPath (depths f.nodes) (ix ∷ jx ∷ s) = subst (IsOpenPath (depths f.nodes)) spine forest.opened in
    let n : length f.spine ≡ length (ix ∷ jx ∷ s) = ap (λ (z : List TreeIndex). length z) spine in
    closed_cases (IsBefore jx.0) f (λ none item. none_before jx.0 (top_body f))
    (λ c x current is. below_before jx.0 (top_end f) c.0 (top_body f) x (before_current f jx c (length s + 1) forest opened.1.0 (omega arith) current))

-- the same after the innermost open node is closed, whose last child is then a paragraph
outer_before : (f : Forest Item) (ix a b c : TreeIndex) (rest s : List TreeIndex) → IsForest f → f.spine ≡ ix ∷ rest → rest ≡ a ∷ b ∷ s
    → f.current ≡ Some c → b.0 < c.0
outer_before f ix a b c rest s forest spine is current =
    let all : f.spine ≡ ix ∷ a ∷ b ∷ s = spine ∙ ap (λ z. ix ∷ z) is in
    let opened : IsOpenPath (depths f.nodes) (ix ∷ a ∷ b ∷ s) = subst (IsOpenPath (depths f.nodes)) all forest.opened in
    let n : length f.spine ≡ length (ix ∷ a ∷ b ∷ s) = ap (λ (z : List TreeIndex). length z) all in
    before_current f b c (length s + 1) forest opened.1.1.0 (omega arith) current

-- the nodes continue at a place in a line, and no list is innermost
abbrev pub ReadyPlain : Document → Tables → Forest Item → Bool → Place → List Place → Type 0
ReadyPlain d defined f run p lines = (q : ReadyAt d defined f run (Inside p) lines) × IsPlain q.frames

pub plain_by : (options : Options) (nodes : List (ℕ × Item)) (s : List TreeIndex) (frames : List Frame)
    → AreOpen options nodes s frames → is_list (top_in nodes s) ≡ false → IsPlain frames
plain_by options nodes s frames o none = plain_top options (top_in nodes s) frames (top_of options nodes s frames o) none

-- the nodes continue at a place, no list is innermost, and the node around the innermost open node is before the last
-- child of that
pub record IsLeft (d : Document) (defined : Tables) (f : Forest Item) (run : Bool) (p : Place) (lines : List Place) : Type 0 where
  pub ready : ReadyPlain d defined f run p lines
  pub before : (ix jx : TreeIndex) (s : List TreeIndex) → f.spine ≡ ix ∷ jx ∷ s → IsBefore jx.0 (closed_in f)

module _ (d : Document) (defined : Tables) (r : PassState) (p : Place) (lines : List Place) (forest : IsForest r.tree) where
  pub left_still : is_list (top_body r.tree) ≡ false → ReadyAt d defined r.tree r.blank (Inside p) lines → IsLeft d defined r.tree r.blank p lines
  left_still h ready = record {
    ready = (ready, plain_by d.options r.tree.nodes r.tree.spine ready.frames ready.are_open h);
    before = λ ix jx s e. open_before r.tree ix jx s forest e;
  }

  pub left_list : (f : Forest Item) → PlainAfter d defined f r.blank (Inside p) lines OtherClosed → IsLeft d defined f r.blank p lines
  left_list f q = record { ready = (q.ready, q.plain); before = λ a b s e. subst (IsBefore b.0) (sym q.last) tt }

  pub left_title : (l : TitledList r.tree) → PlainAfter d defined (title_closed r.tree l) r.blank (Inside p) lines (ParagraphAt l.title.0)
      → IsLeft d defined (title_closed r.tree l) r.blank p lines
  left_title l q = record {
    ready = (q.ready, q.plain);
    before = λ a b s e. subst (IsBefore b.0) (sym q.last)
        (outer_before r.tree l.list a b l.title l.outer s forest l.spine
        (sym (list_spine (with_body_at r.tree l.title ParagraphBody) (top_end r.tree) l.list l.outer l.titled.flags) ∙ e) l.titled.current);
  }

-- the opening at the place is also the same
abbrev pub LeftPlain : Document → Tables → Forest Item → Bool → Place → List Place → Opening → Type 0
LeftPlain d defined f run p lines opening = IsLeft d defined f run p lines × Opens d (level_of d.options f run) p lines opening

-- an innermost list, if there is one, is closed
pub ready_left : (d : Document) (defined : Tables) (r : PassState) (p : Place) (lines : List Place) (at : ℕ) (opening : Opening) → IsForest r.tree
    → OpensOther d (path_of d.options r.tree) p opening → Opens d (level_of d.options r.tree r.blank) p lines opening
    → EndsListAt at (top_body r.tree) (closed_in r.tree) opening → ReadyAt d defined r.tree r.blank (Inside p) lines
    → LeftPlain d defined (list_closed at r).tree r.blank p lines opening
ready_left d defined r p lines at opening forest begins opens away ready =
    list_cases at r (λ q. path_of d.options q.tree ≡ path_of d.options r.tree → LeftPlain d defined q.tree r.blank p lines opening)
    (λ still path. (left_still d defined r p lines forest still ready, opens))
    (λ l path.
    let g : Forest Item = list_popped r.tree at l.list l.outer l.flags in
    let q = leave_list d defined r.tree r.blank lines at forest l p opening begins.stays opens away ready in
    let last : takes_after (last_in g) ≡ false =
    ap takes_after (plain_last_in d.options g q.ready.frames OtherClosed q.ready.are_open q.plain q.last) in
    (left_list d defined r p lines forest g q, opens_none d r.tree g r.blank r.blank p lines opening path begins.other last opens))
    (λ l path.
    let g : Forest Item = title_closed r.tree l in
    let q = leave_title d defined r.tree r.blank lines forest l p opening begins opens ready in
    let last : takes_after (last_in g) ≡ true =
    ap takes_after (plain_last_in d.options g q.ready.frames (ParagraphAt l.title.0) q.ready.are_open q.plain q.last) in (
      left_title d defined r p lines forest l q,
      opens_as d r.tree g r.blank r.blank p lines opening path (ap (λ z. takes_after (last_below z (closed_in r.tree))) l.titled.top
          ∙ ap (λ z. takes_after (last_defined z)) l.titled.closed ∙ sym last) opens,
    ))
    ((kept_left at r).path d.options)

-- a list of either kind that becomes loose
pub loosened_is : (f : Forest Item) (ix : TreeIndex) (b : ItemBody) (flags : ListFlags) → list_flags_of b ≡ Some flags
    → loosened_by f ix (Some b) ≡ with_body_at f ix (flagged true b)
loosened_is f ix b flags h = grind (arith, h)

pub loose_is : (f : Forest Item) (ix : TreeIndex) (b : ItemBody) (flags : ListFlags) → body_at f.nodes ix.0 ≡ Some b → list_flags_of b ≡ Some flags
    → (loosened_at f ix).nodes ≡ reflagged f.nodes ix.0 true
unfolding reflagged
loose_is f ix b flags is listed = grind (arith, loosened_is, changed_alike)

pub loosened_spine : (f : Forest Item) (ix : TreeIndex) (b : Option ItemBody) → (loosened_by f ix b).spine ≡ f.spine
loosened_spine f ix b = grind arith

loosened_path : (options : Options) (f : Forest Item) (ix : TreeIndex) (b : Option ItemBody)
    → body_at f.nodes ix.0 ≡ b → path_of options (loosened_by f ix b) ≡ path_of options f
loosened_path options f ix (Some (ListBody flags list number)) is =
    same_path f.nodes (with_body_at f ix (ListBody (list_flags false) list number)).nodes
    (unnamed f.nodes ix.0 (ListBody flags list number) (ListBody (list_flags false) list number) (λ options. (refl, refl)) is) options f.spine
loosened_path options f ix (Some (DefinitionList flags)) is =
    same_path f.nodes (with_body_at f ix (DefinitionList (list_flags false))).nodes
    (unnamed f.nodes ix.0 (DefinitionList flags) (DefinitionList (list_flags false)) (λ options. (refl, refl)) is) options f.spine
loosened_path options f ix b is = refl

-- the frame of a list that becomes loose
abbrev pub loose_frame_of : Frame → Frame
loose_frame_of (InContainer c) = InContainer c
loose_frame_of (InList byte loose) = InList byte (loose || true)
loose_frame_of (InDefinitions loose) = InDefinitions (loose || true)

loose_frame_by : (options : Options) (b : ItemBody) (flags : ListFlags) (frame : Frame) → list_flags_of b ≡ Some flags → HasFrame options (Some b) frame
    → frame_of options (flagged true b) ≡ Some (loose_frame_of frame)
loose_frame_by options b flags frame listed h = grind (arith, listed, h, list_no_container)

pub loose_frame : (options : Options) (f : Forest Item) (ix : TreeIndex) (b : ItemBody) (flags : ListFlags) (frame : Frame)
    → body_at f.nodes ix.0 ≡ Some b → list_flags_of b ≡ Some flags → frame_at options f.nodes ix.0 ≡ Some frame
    → frame_at options (loosened_at f ix).nodes ix.0 ≡ Some (loose_frame_of frame)
loose_frame options f ix b flags frame is listed framed =
    let now : body_at (loosened_at f ix).nodes ix.0 ≡ Some (flagged true b) =
    ap (λ z. body_at (loosened_by f ix z).nodes ix.0) is ∙ ap (λ (z : Forest Item). body_at z.nodes ix.0) (loosened_is f ix b flags listed)
    ∙ body-changed f.nodes ix.0 _ b (flagged true b) is (λ x h. refl) in
    ap (option_and_then (frame_of options)) now
    ∙ loose_frame_by options b flags frame listed (subst (λ z. HasFrame options z frame) is (has_frame options (body_at f.nodes ix.0) frame framed))

-- a list that becomes loose is no paragraph
flagged_no_paragraph : (b : ItemBody) (flags : ListFlags) → list_flags_of b ≡ Some flags → is_paragraph_body (flagged true b) ≡ false
flagged_no_paragraph b flags h = grind (arith, h)

-- after that, a last child that has no part of a table in it still has none
silent_reflagged : (nodes : List (ℕ × Item)) (o : ℕ) (loose : Bool) (closed : Closed) → SilentClosed nodes closed
    → SilentClosed (reflagged nodes o loose) closed
unfolding reflagged
silent_reflagged nodes o loose OtherClosed h = tt
silent_reflagged nodes o loose (ParagraphAt at) h = from_modified nodes o at _ (λ x k. silent_flagged loose x.body k) h
silent_reflagged nodes o loose (DefinitionClosed e blanks) h = tt
silent_reflagged nodes o loose (TitleAt e at) h = from_modified nodes o at _ (λ x k. silent_flagged loose x.body k) h

-- a frame of a list
abbrev IsList : Frame → Type 0
IsList (InContainer c) = ⊥
IsList (InList byte loose) = Unit {0}
IsList (InDefinitions loose) = Unit {0}

-- a list that becomes loose is around the container in it
list_around : (frame : Frame) (c : Container) (frames : List Frame) → IsList frame → StandsIn c (loose_frame_of frame ∷ frames)
    → IsListAround (loose_frame_of frame) c
list_around (InList byte loose) c frames list stands = tt
list_around (InDefinitions loose) (Definition columns) frames list stands = tt
list_around (InContainer b) c frames list stands = absurd list
list_around frame c frames list stands = absurd stands

-- the body of a list that has a frame, and its flags
list_body : (options : Options) (b : Option ItemBody) (frame : Frame) → IsList frame → HasFrame options b frame
    → (x : ItemBody) × (flags : ListFlags) × (b ≡ Some x) × (list_flags_of x ≡ Some flags)
list_body options b (InContainer c) list h = absurd list
list_body options b (InList byte loose) list h = (ListBody (list_flags (not loose)) byte h.0, list_flags (not loose), h.1, refl)
list_body options b (InDefinitions loose) list h = (DefinitionList (list_flags (not loose)), list_flags (not loose), h, refl)

-- no list is a container
no_list_at : (options : Options) (b : Option ItemBody) (c : Container) → HasFrame options b (InContainer c) → (f : Forest Item) (ix : TreeIndex)
    → loosened_by f ix b ≡ f
no_list_at options b c h f ix = grind (arith, h)

-- a block opens after blank lines
module _ (d : Document) (defined : Tables) (f : Forest Item) (p : Place) (lines : List Place) (opening : Opening)
    (left : LeftPlain d defined f true p lines opening) (begins : OpensOther d (path_of d.options f) p opening) where
  abbrev old : ReadyAt d defined f true (Inside p) lines
  old = left.0.ready.0

  -- the nodes are completed after the blank lines are noted
  noted_at : (s : List TreeIndex) (frames : List Frame) → f.spine ≡ s → loosened_in true old.frames ≡ frames
      → CompletesAt d defined (tail (closed_in f) false) frames f.nodes (map (λ (i : TreeIndex). i.0) s) (Inside p) lines
  noted_at s frames spine same = rw (← spine, ← same)
      (completes-note d (open_nodes defined old.frames f.nodes (map (λ (i : TreeIndex). i.0) f.spine)) (tail (closed_in f) true)
      (at_level d (path_of d.options f) _ _ p lines opening (open_level d.options f old.frames true old.are_open)
      (open_path d.options f.nodes f.spine old.frames old.are_open) begins.stays left.1) left.0.ready.1 begins.block begins.other old.completes)

  -- if the innermost open node is not in a list
  noted_still : loosened_in true old.frames ≡ old.frames → PlainAfter d defined f false (Inside p) lines (closed_in f)
  noted_still still = record {
    ready = ready_as d defined f false (Inside p) lines old.frames (closed_in f) refl old.are_open old.silent (noted_at f.spine old.frames refl still);
    plain = left.0.ready.1;
    last = refl;
  }

  -- if it is in a list, which becomes loose; no footnote definition is directly in another one
  noted_loose : (ix jx : TreeIndex) (s : List TreeIndex) (c : Container) (frame : Frame) (frames : List Frame)
      → f.spine ≡ ix ∷ jx ∷ s → old.frames ≡ InContainer c ∷ frame ∷ frames
      → AreOpen d.options f.nodes (ix ∷ jx ∷ s) (InContainer c ∷ frame ∷ frames) → IsList frame
      → loosened_in true (InContainer c ∷ frame ∷ frames) ≡ InContainer c ∷ loose_frame_of frame ∷ frames
      → (is_footnote_in_another (loose_frame_of frame) frames ≡ false) × (is_footnote_in_another (InContainer c) (loose_frame_of frame ∷ frames) ≡ false)
      → PlainAfter d defined (loosened_at f jx) false (Inside p) lines (closed_in f)
  unfolding reflagged
  noted_loose ix jx s c frame frames spine same o list now apart =
      let l = list_body d.options (body_at f.nodes jx.0) frame list (has_frame d.options _ frame o.1.0) in
      let b : ItemBody = l.0 in
      let k = noted_at (ix ∷ jx ∷ s) (InContainer c ∷ loose_frame_of frame ∷ frames) spine (ap (loosened_in true) same ∙ now) in
      let g : Forest Item = loosened_at f jx in
      let nodes : g.nodes ≡ reflagged f.nodes jx.0 true = loose_is f jx b l.1 l.2 l.3 in
      let current : g.current ≡ f.current =
      ap (λ z. (loosened_by f jx z).current) l.2 ∙ ap (λ (z : Forest Item). z.current) (loosened_is f jx b l.1 l.3) in
      let old_top : is_definition_list (top_body f) ≡ false = ap (λ z. is_definition_list (top_in f.nodes z)) spine
      ∙ top_no_definitions d.options (body_at f.nodes ix.0) (InContainer c ∷ frame ∷ frames) (has_frame d.options _ (InContainer c) o.0) tt in
      plain_after d defined g false (Inside p) lines (closed_in f) (reflagged f.nodes jx.0 true) (ix ∷ jx ∷ s)
      (InContainer c ∷ loose_frame_of frame ∷ frames) nodes (loosened_spine f jx (body_at f.nodes jx.0) ∙ spine) (
        ap (option_and_then (frame_of d.options)) (body-later f.nodes jx.0 ix.0 _ k.below.1.0) ∙ o.0,
        (
          ap (λ z. frame_at d.options z jx.0) (sym nodes) ∙ loose_frame d.options f jx b l.1 frame l.2 l.3 o.1.0,
          open_below d.options f.nodes _ jx.0 s frames (λ i h. ap (option_and_then (frame_of d.options)) (body-other f.nodes jx.0 i _ h)) k.below.1.1
              o.1.1,
          apart.0,
        ),
        apart.1,
      ) tt
      (λ new_top. closed_same f g old_top new_top current (λ i. ap (λ z. option_map_or (closed_elsewhere i) (body_at z i) OtherClosed) nodes
      ∙ closed_renamed f.nodes jx.0 b _ (list_no_paragraph b l.1 l.3)
      (λ x h. ap (λ z. is_paragraph_body (flagged true z)) h ∙ flagged_no_paragraph b l.1 l.3) l.2 i i))
      (silent_reflagged f.nodes jx.0 true (closed_in f) old.silent)
      (completes-reflag d (open_nodes defined frames f.nodes (map (λ (i : TreeIndex). i.0) s)) (tail (closed_in f) false) (loose_frame_of frame) c
      ix.0 jx.0 (Inside p) lines (list_around frame c frames list k.shape.0) (left.0.before ix jx s spine) k)

  noted_by : (s : List TreeIndex) (frames : List Frame) → f.spine ≡ s → old.frames ≡ frames → AreOpen d.options f.nodes s frames → IsPlain frames
      → PlainAfter d defined (gap_tree f s) false (Inside p) lines (closed_in f)
  noted_by [] [] spine same o plain = noted_still (rw same refl)
  noted_by (ix ∷ []) (InContainer c ∷ []) spine same o plain = noted_still (rw same refl)
  noted_by (ix ∷ jx ∷ s) (InContainer c ∷ InContainer b ∷ frames) spine same o plain =
      subst (λ g. PlainAfter d defined g false (Inside p) lines (closed_in f))
      (sym (no_list_at d.options (body_at f.nodes jx.0) b (has_frame d.options _ (InContainer b) o.1.0) f jx)) (noted_still (rw same refl))
  noted_by (ix ∷ jx ∷ s) (InContainer c ∷ InList byte loose ∷ frames) spine same o plain =
      noted_loose ix jx s c (InList byte loose) frames spine same o tt refl (refl, o.2)
  noted_by (ix ∷ jx ∷ s) (InContainer c ∷ InDefinitions loose ∷ frames) spine same o plain =
      noted_loose ix jx s c (InDefinitions loose) frames spine same o tt refl (refl, o.2)
  noted_by [] (frame ∷ frames) spine same o plain = absurd o
  noted_by (ix ∷ s) [] spine same o plain = absurd o
  noted_by (ix ∷ []) (InContainer c ∷ frame ∷ frames) spine same o plain = absurd o.1
  noted_by (ix ∷ jx ∷ s) (InContainer c ∷ []) spine same o plain = absurd o.1
  noted_by s frames spine same o plain = absurd plain

  -- a blank line before a block is noted
  noted_run : PlainAfter d defined (gap_tree f f.spine) false (Inside p) lines (closed_in f)
  noted_run = noted_by f.spine old.frames refl refl old.are_open left.0.ready.1

gap_path : (options : Options) (f : Forest Item) (spine : List TreeIndex) → path_of options (gap_tree f spine) ≡ path_of options f
gap_path options f [] = refl
gap_path options f (ix ∷ []) = refl
gap_path options f (ix ∷ jx ∷ rest) = loosened_path options f jx (body_at f.nodes jx.0) refl

-- the state after a new block ended what it ends, given the opening at the place
pub record Finished (d : Document) (defined : Tables) (old new : PassState) (p : Place) (lines : List Place) (opening : Opening) : Type 0 where
  pub ready : ReadyPlain d defined new.tree false p lines
  pub opens : Opens d (level_of d.options new.tree false) p lines opening
  pub path : path_of d.options new.tree ≡ path_of d.options old.tree
  pub blank : new.blank ≡ false
  pub none : new.begin_list_item ≡ None

-- blocks may begin at the place of a state, and no item is empty
pub record MayBegin (d : Document) (defined : Tables) (r : PassState) (p : Place) (lines : List Place) : Type 0 where
  pub forest : IsForest r.tree
  pub none : r.begin_list_item ≡ None
  pub ready : ReadyAt d defined r.tree r.blank (Inside p) lines

pub noted_as : (d : Document) (defined : Tables) (r : PassState) (p : Place) (lines : List Place) (opening : Opening) (run : Bool)
    → r.blank ≡ run → r.begin_list_item ≡ None → OpensOther d (path_of d.options r.tree) p opening → LeftPlain d defined r.tree run p lines opening
    → (let q : PassState = if run then record r { tree = gap_tree r.tree r.tree.spine; blank = false } else r in Finished d defined r q p lines opening)
noted_as d defined r p lines opening true is none opens left =
    let g : Forest Item = gap_tree r.tree r.tree.spine in
    let n = noted_run d defined r.tree p lines opening left opens in
    let path = gap_path d.options r.tree r.tree.spine in
    let q = left.0.ready.0 in
    let takes : takes_after (last_in r.tree) ≡ takes_after (last_in g) =
    ap takes_after (plain_last_in d.options r.tree q.frames (closed_in r.tree) q.are_open left.0.ready.1 refl
    ∙ sym (plain_last_in d.options g n.ready.frames (closed_in r.tree) n.ready.are_open n.plain n.last)) in
    record {
      ready = (n.ready, n.plain);
      opens = opens_as d r.tree g true false p lines opening path takes left.1;
      path = path;
      blank = refl;
      none = none;
    }
noted_as d defined r p lines opening false is none opens left = grind arith

-- a new block ends an innermost list, and a blank line before it is noted
pub ready_finished : (d : Document) (defined : Tables) (r : PassState) (p : Place) (lines : List Place) (at : ℕ) (opening : Opening)
    → MayBegin d defined r p lines → OpensOther d (path_of d.options r.tree) p opening → Opens d (level_of d.options r.tree r.blank) p lines opening
    → EndsListAt at (top_body r.tree) (closed_in r.tree) opening → Finished d defined r (list_finished at r) p lines opening
unfolding list_finished empty_item_closed
ready_finished d defined r p lines at opening may begins opens away =
    let l : PassState = list_closed at r in
    let kept = kept_left at r in
    let path : path_of d.options l.tree ≡ path_of d.options r.tree = kept.path d.options in
    let left : LeftPlain d defined l.tree r.blank p lines opening =
    ready_left d defined r p lines at opening may.forest begins opens away may.ready in
    let left' : LeftPlain d defined l.tree l.blank p lines opening = subst (λ t. LeftPlain d defined l.tree t p lines opening) (sym kept.blank) left in
    let done = noted_as d defined l p lines opening l.blank refl (kept.none may.none) (subst (λ z. OpensOther d z p opening) (sym path) begins) left' in
    let same : empty_item_closed_by r r.begin_list_item ≡ r = ap (empty_item_closed_by r) may.none in
    subst (λ q. Finished d defined r (gap_marked (list_closed at q)) p lines opening) (sym same)
    (record { ready = done.ready; opens = done.opens; path = done.path ∙ path; blank = done.blank; none = done.none })

-- a new block ends no container
pub path_finished : (options : Options) (at : ℕ) (r : PassState) → r.begin_list_item ≡ None → path_of options (list_finished at r).tree ≡ path_of options r.tree
unfolding list_finished empty_item_closed
path_finished options at r none =
    let same : empty_item_closed_by r r.begin_list_item ≡ r = ap (empty_item_closed_by r) none in
    let l : PassState = list_closed at r in
    subst (λ q. path_of options (gap_marked (list_closed at q)).tree ≡ path_of options r.tree) (sym same)
    (cond_both l.blank _ l (λ q. path_of options q.tree ≡ path_of options l.tree) (λ noted. gap_path options l.tree l.tree.spine) (λ still. refl)
    ∙ (kept_left at r).path options)
