-- A footnote definition is opened at a place in a line: an innermost list ends there, and then another footnote
-- definition (this project).
use Rattle.std.proofs.Common.{arith, ◌≡◌, ℕ, Bool, true, false, ◌&&◌, List, ◌∷◌, map, Option, Some, None, is_some, refl, sym, ap, subst, ◌∙◌, if◌then◌else◌}
use Rattle.std.proofs.Common.{option_and_then}
use Rattle.first_pass_grammar.proofs.Common.{Item, ItemBody, DefinitionList, CowIndex, Options, TreeIndex, Forest, IsForest, Place, offset, Before}
use Rattle.first_pass_grammar.proofs.Common.{FootnoteMarker, footnote_columns, in_footnote, footnote_head_at, label_bytes, NamesLabel, place_past, past_head}
use Rattle.first_pass_grammar.proofs.Common.{unindented, lines_beyond, gfm_footnotes, Document, around, Inside, Opening, Level, level, OpensFootnote, Opens}
use Rattle.first_pass_grammar.proofs.Common.{Tables, with_footnote_label, node_of, Closed, OtherClosed, DefinitionClosed, Frame, containers_of, IsPlain}
use Rattle.first_pass_items.specs.declared.item.ItemBody.TheVariants.{List as ListBody, FootnoteDefinition as FootnoteDefinitionBody}
use Rattle.first_pass_grammar.specs.declared.kind.Container.{Container}
use Rattle.first_pass_grammar.specs.declared.kind.Container.TheVariants.{FootnoteDefinition}
use Rattle.first_pass_grammar.specs.Skeleton.{footnote_opening}
use Rattle.first_pass_completion.proofs.ContainerSteps.{completes-footnote}
use Rattle.first_pass_completion.proofs.EarlierNodes.{IsBefore}
use Rattle.first_pass_completion.proofs.Extending.{stays_outside}
use Rattle.first_pass_completion.proofs.States.{open_nodes}
use Rattle.first_pass_grammar.proofs.Sequences.FootnoteHeads.{head_around}
use Rattle.first_pass_open.specs.OpenBlock.{closed_by}
use Rattle.first_pass_open.specs.Path.{container_of, container_at, with_container, path_in, path_of}
use Rattle.first_pass_lists.specs.Closing.{top_body, is_footnote, popped, empty_item_closed_by, empty_item_closed, list_closed, footnote_left, gap_marked}
use Rattle.first_pass_lists.specs.Closing.{begun, footnote_begun}
use Rattle.first_pass_lists.specs.declared.state.PassState.{PassState}
use Rattle.first_pass_ready.specs.State.{closed_in, ReadyAt}
use Rattle.first_pass_ready.proofs.ClosedIn.{IsTop, top_of, level_of, open_level, closed_popped}
use Rattle.first_pass_ready.proofs.OpenLemmas.{open_path}
use Rattle.first_pass_ready.proofs.PopLemmas.{list_popped, note_ends, close_list, end_note}
use Rattle.first_pass_ready.proofs.TitlePops.{close_title}
use Rattle.first_pass_ready.proofs.StateLemmas.{list_cases, kept_left, popped_as, popped_kept, popped_spine}
use Rattle.first_pass_ready.proofs.OldFootnotes.{footnote_top}
use Rattle.first_pass_ready.proofs.FinishLemmas.{ReadyPlain, EndsListAt, IsLeft, left_still, left_list, left_title, ready_left, OpensOther, noted_as}
use Rattle.first_pass_ready.proofs.BegunLemmas.{with_open, begun_ready}

-- the opening of a footnote definition ends any list at its start
note_away : (b : Option ItemBody) (closed : Closed) (d : Document) (p : Place) (lines : List Place) (size : ℕ) (index : CowIndex) (label : List ℕ)
    → EndsListAt (offset (unindented p)) b closed (footnote_opening d p lines size (FootnoteMarker (footnote_columns d.options) index label))
note_away (Some (ListBody flags list number)) closed d p lines size index label = (refl, refl)
note_away (Some (DefinitionList flags)) (DefinitionClosed e blanks) d p lines size index label = (refl, refl)
note_away b closed d p lines size index label = tt

-- a footnote definition opens at its head
opens_note : (d : Document) (l : Level) (p : Place) (lines : List Place) (head : ℕ × List ℕ) (opening : Opening)
    → footnote_head_at (around d l.path) p ≡ Some head → OpensFootnote d p lines head opening → Opens d l p lines opening
opens_note d l p lines head opening is opens = rw is opens

note_framed : (options : Options) (b : Option ItemBody) (n : ℕ) → option_and_then (container_of options) b ≡ Some (FootnoteDefinition n)
    → is_footnote b ≡ true
note_framed options b n h = grind (arith, h)

-- if neither a list nor a footnote definition is innermost, the innermost container is no footnote definition
outside : (options : Options) (top : Option ItemBody) (frames : List Frame) → IsTop options top frames → IsPlain frames → is_footnote top ≡ false
    → in_footnote (containers_of frames) ≡ false
outside options top frames is plain h = grind (arith, is, plain, h, note_framed)

module _ (d : Document) (defined : Tables) (r : PassState) (p : Place) (lines : List Place) (head : ℕ × List ℕ) (forest : IsForest r.tree)
    (is_head : footnote_head_at (around d (path_of d.options r.tree)) p ≡ Some head) where
  abbrev at : ℕ
  at = offset (unindented p)

  -- an innermost list, if there is one, is closed, with the footnote definition around it
  list_ended : (t : Bool) (index : CowIndex) → NamesLabel d.names index (label_bytes head.0 (unindented p).rest.left) head.1
      → in_footnote (path_of d.options r.tree) ≡ t → ReadyAt d defined r.tree r.blank (Inside p) lines
      → IsLeft d defined (list_closed at r).tree r.blank p lines
  unfolding OpensFootnote
  list_ended true index named inside ready =
      let path : List Container = path_of d.options r.tree in
      let ends = note_ends d path p lines
      (ap (λ (t : Bool). t && is_some (footnote_head_at (around d path) p)) inside ∙ ap (λ z. is_some z) is_head) in
      list_cases at r (λ q. IsLeft d defined q.tree r.blank p lines) (λ still. left_still d defined r p lines forest still ready)
      (λ l. left_list d defined r p lines forest (list_popped r.tree at l.list l.outer l.flags)
      (close_list d defined r.tree r.blank lines at forest l (Inside p) ends ready))
      (λ l. left_title d defined r p lines forest l (close_title d defined r.tree r.blank lines forest l (Inside p) at ends ready))
  list_ended false index named out ready =
      let opening : Opening = footnote_opening d p lines head.0 (FootnoteMarker (footnote_columns d.options) index head.1) in
      let begins : OpensOther d (path_of d.options r.tree) p opening =
      record { stays = stays_outside d (path_of d.options r.tree) p out; block = tt; other = refl } in
      (ready_left d defined r p lines at opening forest begins
      (opens_note d (level_of d.options r.tree r.blank) p lines head opening is_head (index, named, refl))
      (note_away (top_body r.tree) (closed_in r.tree) d p lines head.0 index head.1) ready).0

-- the state after the innermost open nodes end where another footnote definition begins
record IsOutside (d : Document) (defined : Tables) (old new : PassState) (run : Bool) (p : Place) (lines : List Place) : Type 0 where
  left : IsLeft d defined new.tree run p lines
  out : in_footnote (path_of d.options new.tree) ≡ false
  blank : new.blank ≡ old.blank
  none : new.begin_list_item ≡ old.begin_list_item
  same : footnote_head_at (around d (path_of d.options new.tree)) p ≡ footnote_head_at (around d (path_of d.options old.tree)) p

footnote_closed : (d : Document) (defined : Tables) (r : PassState) (run : Bool) (p : Place) (lines : List Place) (head : ℕ × List ℕ) (t : Bool)
    → footnote_head_at (around d (path_of d.options r.tree)) p ≡ Some head → is_footnote (top_body r.tree) ≡ t → IsLeft d defined r.tree run p lines
    → IsOutside d defined r (if t then popped (offset (unindented p)) r else r) run p lines
footnote_closed d defined r run p lines head false is_head top left =
    let ready = left.ready.0 in
    record {
      left = left;
      out = ap in_footnote (open_path d.options r.tree.nodes r.tree.spine ready.frames ready.are_open)
          ∙ outside d.options (top_body r.tree) ready.frames (top_of d.options r.tree.nodes r.tree.spine ready.frames ready.are_open) left.ready.1 top;
      blank = refl;
      none = refl;
      same = refl;
    }
footnote_closed d defined r run p lines head true is_head top left =
    let e : ℕ = offset (unindented p) in
    let t = footnote_top r.tree.nodes r.tree.spine top in
    let ix : TreeIndex = t.0 in
    let rest : List TreeIndex = t.1 in
    let columns : ℕ = footnote_columns d.options in
    let path : List Container = path_in d.options r.tree.nodes rest in
    let g : Forest Item = closed_by r.tree e (ix ∷ rest) in
    let here : container_at d.options r.tree.nodes ix ≡ Some (FootnoteDefinition columns) = ap (option_and_then (container_of d.options)) t.4 in
    let inner : path_of d.options r.tree ≡ FootnoteDefinition columns ∷ path =
    ap (path_in d.options r.tree.nodes) t.3 ∙ ap (λ o. with_container o path) here in
    let outer : path_of d.options (popped e r).tree ≡ path =
    (popped_kept e r ix rest t.3).paths d.options (popped e r).tree.spine ∙ ap (path_in d.options r.tree.nodes) (popped_spine e r ix rest t.3) in
    let now : popped e r ≡ record r { tree = g } = popped_as e r ix rest (FootnoteDefinitionBody t.2) t.3 t.4 refl in
    let q = end_note d defined r.tree run p lines ix rest head columns t.3 here is_head left.ready.0 in
    let frames : List Frame = q.ready.frames in
    let last : closed_in g ≡ OtherClosed =
    closed_popped d.options r.tree e ix rest (FootnoteDefinition columns) frames here q.ready.are_open q.stands in
    let done : IsLeft d defined g run p lines =
    record { ready = (q.ready, q.stands); before = λ a o s e. subst (IsBefore o.0) (sym last) tt } in
    record {
      left = subst (λ (q : PassState). IsLeft d defined q.tree run p lines) (sym now) done;
      out = ap (λ (q : PassState). in_footnote (path_of d.options q.tree)) now
          ∙ ap in_footnote (open_path d.options g.nodes g.spine frames q.ready.are_open) ∙ q.apart;
      blank = ap (λ (q : PassState). q.blank) now;
      none = ap (λ (q : PassState). q.begin_list_item) now;
      same = ap (λ z. footnote_head_at (around d z) p) outer ∙ sym (head_around d.options columns path p refl)
          ∙ ap (λ z. footnote_head_at (around d z) p) (sym inner);
    }

-- the place where blocks continue in a footnote definition, given the length of its head at a place, and the lines
-- after that
abbrev pub after_note : Document → Place → List Place → ℕ → Place × List Place
after_note d p lines size =
    let q : Place = place_past size (unindented p) in
    past_head (gfm_footnotes d.options) q (lines_beyond (offset q) lines)

-- a footnote definition is open, and blocks continue in it
pub record NoteIsOpen (d : Document) (defined : Tables) (q : PassState) (there : Place × List Place) : Type 0 where
  pub ready : ReadyAt d defined q.tree false (Inside there.0) there.1
  pub blank : q.blank ≡ false
  pub none : q.begin_list_item ≡ None

module _ (d : Document) (defined : Tables) (r : PassState) (p : Place) (lines : List Place) (head : ℕ × List ℕ) (index : CowIndex) (forest : IsForest r.tree)
    (is_head : footnote_head_at (around d (path_of d.options r.tree)) p ≡ Some head)
    (named : NamesLabel d.names index (label_bytes head.0 (unindented p).rest.left) head.1) (none : r.begin_list_item ≡ None) where
  abbrev opening : Opening
  opening = footnote_opening d p lines head.0 (FootnoteMarker (footnote_columns d.options) index head.1)

  abbrev there : Place × List Place
  there = after_note d p lines head.0

  abbrev start : ℕ
  start = offset (unindented p)

  opens_in : (path : List Container) (before : Before) → footnote_head_at (around d path) p ≡ Some head → Opens d (level path before) p lines opening
  unfolding OpensFootnote
  opens_in path before is = opens_note d (level path before) p lines head opening is (index, named, refl)

  -- a footnote definition is opened after the innermost open nodes ended and a blank line before was noted
  note_begun : (f : Forest Item) → ReadyPlain d defined f false p lines → in_footnote (path_of d.options f) ≡ false
      → footnote_head_at (around d (path_of d.options f)) p ≡ Some head
      → ReadyAt d (with_footnote_label defined head.1) (with_open f (node_of start 0 (FootnoteDefinitionBody index))) false (Inside there.0) there.1
  note_begun f (ready, plain) out begins =
      let columns : ℕ = footnote_columns d.options in
      let frames : List Frame = ready.frames in
      let path = open_path d.options f.nodes f.spine frames ready.are_open in
      let out' : in_footnote (containers_of frames) ≡ false = ap in_footnote (sym path) ∙ out in
      let opens = subst (λ z. Opens d z p lines opening) (open_level d.options f frames false ready.are_open)
      (opens_in (path_of d.options f) (level_of d.options f false).before begins) in
      let k = completes-footnote d (open_nodes defined frames f.nodes (map (λ (i : TreeIndex). i.0) f.spine)) (closed_in f) columns index head.1 start p.line
      (record { place = p; lines = lines; inside = Inside there.0; following = there.1; opens = opens }) plain
      (stays_outside d (containers_of frames) p out') ready.completes in
      (begun_ready d (with_footnote_label defined head.1) f (node_of start 0 (FootnoteDefinitionBody index)) (FootnoteDefinition columns) frames
      (Inside there.0) there.1 refl out' ready.are_open k).ready

  -- a footnote definition is opened
  pub note_is_open : ReadyAt d defined r.tree r.blank (Inside p) lines → NoteIsOpen d (with_footnote_label defined head.1) (footnote_begun start index r) there
  unfolding footnote_begun empty_item_closed
  note_is_open ready =
      let same : empty_item_closed_by r r.begin_list_item ≡ r = ap (empty_item_closed_by r) none in
      let path : List Container = path_of d.options r.tree in
      let l : PassState = list_closed start r in
      let kept = kept_left start r in
      let head_l : footnote_head_at (around d (path_of d.options l.tree)) p ≡ Some head =
      ap (λ z. footnote_head_at (around d z) p) (kept.path d.options) ∙ is_head in
      let q : PassState = footnote_left start l in
      let o = footnote_closed d defined l r.blank p lines head (is_footnote (top_body l.tree)) head_l refl
      (list_ended d defined r p lines head forest is_head (in_footnote path) index named refl ready) in
      let head_q : footnote_head_at (around d (path_of d.options q.tree)) p ≡ Some head = o.same ∙ head_l in
      let left : IsLeft d defined q.tree q.blank p lines = subst (λ t. IsLeft d defined q.tree t p lines) (sym (o.blank ∙ kept.blank)) o.left in
      let done = noted_as d defined q p lines opening q.blank refl (o.none ∙ kept.none none)
      (record { stays = stays_outside d (path_of d.options q.tree) p o.out; block = tt; other = refl })
      (left, opens_in (path_of d.options q.tree) (level_of d.options q.tree q.blank).before head_q) in
      let g : PassState = gap_marked q in
      let out : in_footnote (path_of d.options g.tree) ≡ false = ap in_footnote done.path ∙ o.out in
      let begins : footnote_head_at (around d (path_of d.options g.tree)) p ≡ Some head = ap (λ z. footnote_head_at (around d z) p) done.path ∙ head_q in
      let open_it : NoteIsOpen d (with_footnote_label defined head.1) (begun start (FootnoteDefinitionBody index) g) there =
      record { ready = note_begun g.tree done.ready out begins; blank = done.blank; none = done.none } in
      subst (λ z. NoteIsOpen d (with_footnote_label defined head.1)
      (begun start (FootnoteDefinitionBody index) (gap_marked (footnote_left start (list_closed start z)))) there)
      (sym same) open_it
