-- A definition is opened at a place in a line: in the open definition list, or in a new one whose title is the
-- paragraph before it (this project).
use Rattle.std.proofs.Common.{◌≡◌, ℕ, zero, suc, ◌+◌, ◌<◌, ◌==◌, Bool, true, false, not, ◌||◌, List, [], ◌∷◌, ◌++◌, length, map, take, drop, slice_get}
use Rattle.std.proofs.Common.{slice_index, Option, Some, None, refl, sym, ap, subst, ◌∙◌, arith, if◌then◌else◌, option_map, option_and_then}
use Rattle.first_pass_grammar.proofs.Common.{and_parts, not-true, length-map, Item, ItemBody, DefinitionList, DefinitionListTitle, MaybeDefinitionListTitle}
use Rattle.first_pass_grammar.proofs.Common.{DefinitionListDefinition, ListFlags, TreeIndex, Forest, IsForest, depths, modify, deeper, item_at, body_at}
use Rattle.first_pass_grammar.proofs.Common.{body-other, body_of, Place, offset, Document, definition_head, Continues, Inside, OpensNode, Opens, Tables}
use Rattle.first_pass_grammar.proofs.Common.{node_of, list_flags, flagged, with_title, title_taken, Closed, ParagraphAt, DefinitionClosed, TitleAt, Frame}
use Rattle.first_pass_grammar.proofs.Common.{InContainer, InDefinitions, containers_of, AreBelow, or-true, or-false, length-modify, Level}
use Rattle.first_pass_items.specs.declared.item.ItemBody.TheVariants.{Paragraph as ParagraphBody}
use Rattle.first_pass_grammar.specs.declared.kind.Container.{Container}
use Rattle.first_pass_grammar.specs.declared.kind.Container.TheVariants.{Definition}
use Rattle.first_pass_completion.proofs.Completions.{fresh}
use Rattle.first_pass_completion.proofs.DefinitionSteps.{definition_node, completes-first_definition, completes-title_definition, completes-definition}
use Rattle.first_pass_completion.proofs.Extending.{tail, lvl, OpensContainer}
use Rattle.first_pass_grammar.proofs.Sequences.Finishes.{CompletesAt}
use Rattle.first_pass_completion.proofs.Flags.{completes-reflag, length-reflagged}
use Rattle.first_pass_grammar.proofs.Sequences.Tightening.{modify-append}
use Rattle.first_pass_completion.proofs.States.{open_nodes}
use Rattle.first_pass_completion.proofs.TitleNodes.{reflagged, length-with_title}
use Rattle.first_pass_open.specs.Path.{path_of}
use Rattle.first_pass_lists.specs.Closing.{with_tree, loosened_at, top_body, top_end, is_definition_list, is_list, possible_title, precedes_definition}
use Rattle.first_pass_lists.specs.Closing.{may_begin_definition, loosened_top, definitions_by, definitions_at, definitions_opened, definition_begun}
use Rattle.first_pass_lists.specs.declared.state.PassState.{PassState}
use Rattle.first_pass_ready.specs.State.{frame_of, frame_at, AreOpen, closed_in, ReadyAt}
use Rattle.first_pass_lists.proofs.ListKinds.{other_list}
use Rattle.first_pass_ready.proofs.ClosedIn.{level_of, open_level, closed_at_body, closed_definition, end_of_current, title_is, definitions_top}
use Rattle.first_pass_ready.proofs.ClosedIn.{definition_list_is}
use Rattle.first_pass_ready.proofs.OpenLemmas.{open_path, open_below, has_frame}
use Rattle.first_pass_ready.proofs.FinishLemmas.{MayBegin, loose_is, loose_frame, loosened_spine}
use Rattle.first_pass_ready.proofs.PopLemmas.{Innermost, innermost_definitions}
use Rattle.first_pass_ready.proofs.BegunLemmas.{with_open, IsBegun, HasBegun, begun_ready, plain_open, current_after}
use Rattle.first_pass_lists.proofs.MovedLemmas.{current_is_last}

-- A definition list is open for a definition, and every completion of the nodes with it is derived by the text. The
-- list is loose so far or not.
record ListIsOpen (d : Document) (defined : Tables) (run : Bool) (path : List Container) (nodes : List (ℕ × Item)) (s : List TreeIndex)
    (columns start : ℕ) (from : Continues) (lines : List Place) : Type 0 where
  ix : TreeIndex
  rest : List TreeIndex
  frames : List Frame
  loose : Bool
  spine : s ≡ ix ∷ rest
  are_open : AreOpen d.options nodes (ix ∷ rest) (InDefinitions loose ∷ frames)
  below : AreBelow (length nodes) (map (λ (i : TreeIndex). i.0) (ix ∷ rest))
  same : containers_of frames ≡ path
  completes : (let os : List ℕ = map (λ (i : TreeIndex). i.0) rest in
      CompletesAt d defined fresh (InContainer (Definition columns) ∷ InDefinitions (loose || run) ∷ frames)
      (nodes ++ (suc (suc (length os)), definition_node start 0 columns) ∷ []) (length nodes ∷ ix.0 ∷ os) from lines)

-- a title among nodes
title_body : (nodes : List (ℕ × Item)) (at : ℕ) → at < length nodes → body_at (with_title nodes at) at ≡ Some (DefinitionList (list_flags true))
unfolding with_title
title_body [] at h = absurd (omega arith)
title_body (n ∷ nodes) zero h = refl
title_body (n ∷ nodes) (suc at) h = title_body nodes at (omega arith)

title_front : (nodes : List (ℕ × Item)) (at i : ℕ) → i < at → body_at (with_title nodes at) i ≡ body_at nodes i
unfolding with_title
title_front nodes zero i h = absurd (omega arith)
title_front (n ∷ nodes) (suc at) (suc i) h = title_front nodes at i (omega arith)
title_front nodes (suc at) i h = refl

-- if the current paragraph becomes a title, the nodes of the tree are the nodes with a title
titled_nodes : (nodes : List (ℕ × Item)) (at j k : ℕ) (x : Item) → option_map (λ n. n.1) (slice_get nodes at) ≡ Some x
    → j ≡ suc at → slice_index (depths nodes) at + 1 ≡ k
    → (let changed : List (ℕ × Item) = modify nodes at (λ y. record y { body = DefinitionList (list_flags true) }) in
    take j changed ++ (k, node_of x.start x.«end» DefinitionListTitle) ∷ map deeper (drop j changed) ≡ with_title nodes at)
unfolding with_title
titled_nodes [] at j k x is next deep = cc
titled_nodes (n ∷ nodes) zero (suc zero) k x is next deep = grind arith
titled_nodes (n ∷ nodes) (suc at) (suc j) k x is next deep = ap (λ z. n ∷ z) (titled_nodes nodes at j k x is (omega arith) deep)
titled_nodes (n ∷ nodes) at j k x is next deep = absurd (omega arith)

-- A definition opens at a place, and the nodes are ready there.
record DefinitionOpens (d : Document) (defined : Tables) (f : Forest Item) (run : Bool) : Type 0 where
  place : Place
  lines : List Place
  columns : ℕ
  inside : Continues
  following : List Place
  forest : IsForest f
  opens : Opens d (level_of d.options f run) place lines (OpensNode (definition_head place columns) inside following)
  ready : ReadyAt d defined f run (Inside place) lines

module _ (d : Document) (defined : Tables) (f : Forest Item) (run : Bool) (w : DefinitionOpens d defined f run) where
  abbrev Opened : Forest Item → Type 0
  Opened g = ListIsOpen d defined run (path_of d.options f) g.nodes g.spine w.columns (offset w.place) w.inside w.following

  -- the definition opens in a state that is equal to that of the tree
  abbrev opens_at : (m : Level) → level_of d.options f run ≡ m → OpensContainer d m (definition_head w.place w.columns)
  opens_at m is = record {
    place = w.place;
    lines = w.lines;
    inside = w.inside;
    following = w.following;
    opens = subst (λ z. Opens d z w.place w.lines (OpensNode (definition_head w.place w.columns) w.inside w.following)) is w.opens;
  }

  -- after a paragraph
  after_paragraph : (c : TreeIndex) (x : Item) → f.current ≡ Some c → item_at f c ≡ Some x → x.body ≡ ParagraphBody → is_list (top_body f) ≡ false
      → Opened (definitions_by f c x.start x.«end» ParagraphBody)
  after_paragraph c x current here body outside =
      let b : body_at f.nodes c.0 ≡ Some ParagraphBody = body_of f c x here ∙ ap (λ z. Some z) body in
      let closed : closed_in f ≡ ParagraphAt c.0 = closed_at_body f c ParagraphBody (other_list (top_body f) outside) current b in
      let below = current_after f c w.forest current w.ready.completes.below in
      let os : List ℕ = map (λ (i : TreeIndex). i.0) f.spine in
      let g : Forest Item = definitions_by f c x.start x.«end» ParagraphBody in
      let last = current_is_last f c w.forest current in
      let within : c.0 < length f.nodes = omega (arith, last.within, length-map f.nodes (λ n. n.0)) in
      let deep : slice_index (depths f.nodes) c.0 + 1 ≡ length f.spine + 2 = (let e = last.depth in omega arith) in
      let nodes : g.nodes ≡ with_title f.nodes c.0 = titled_nodes f.nodes c.0 (c.0 + 1) (length f.spine + 2) x here (omega arith) deep in
      let longer : length (with_title f.nodes c.0) ≡ suc (length f.nodes) = length-with_title f.nodes c.0 within in
      let frames : List Frame = w.ready.frames in
      subst (λ ns. ListIsOpen d defined run (path_of d.options f) ns (c ∷ f.spine) w.columns (offset w.place) w.inside w.following) (sym nodes) (record {
        ix = c;
        rest = f.spine;
        frames = frames;
        loose = false;
        spine = refl;
        are_open = (
          ap (option_and_then (frame_of d.options)) (title_body f.nodes c.0 within),
          open_below d.options f.nodes (with_title f.nodes c.0) c.0 f.spine frames
              (λ i h. ap (option_and_then (frame_of d.options)) (title_front f.nodes c.0 i h)) below w.ready.are_open,
          refl,
        );
        below = (omega arith, below);
        same = sym (open_path d.options f.nodes f.spine frames w.ready.are_open);
        completes = completes-first_definition d (open_nodes defined frames f.nodes os) run c.0
            (record { columns = w.columns; start = offset w.place; line = w.place.line })
            (opens_at _ (open_level d.options f frames run w.ready.are_open ∙ ap (λ z. lvl frames (tail z run)) closed))
            (plain_open d.options f frames w.ready.are_open outside) within below
            (subst (λ z. CompletesAt d defined (tail z run) frames f.nodes os (Inside w.place) w.lines) closed w.ready.completes);
      })

  -- the innermost open node is a definition list with this last child
  record InnermostList (closed : Closed) : Type 0 where
    ix : TreeIndex
    rest : List TreeIndex
    loose : Bool
    spine : f.spine ≡ ix ∷ rest
    inner : Innermost d defined f run (Inside w.place) w.lines ix rest closed (InDefinitions loose)

  innermost_list : (closed : Closed) → is_definition_list (top_body f) ≡ true → closed_in f ≡ closed → InnermostList closed
  innermost_list closed inside is =
      let t = definitions_top f.nodes f.spine inside in
      let i = innermost_definitions d defined f run (Inside w.place) w.lines t.0 t.1 t.3 t.2 closed t.4 is w.ready in
      record { ix = t.0; rest = t.1; loose = i.0; spine = t.3; inner = i.2 }

  -- after a possible title
  after_title : (c : TreeIndex) (x : Item) → f.current ≡ Some c → item_at f c ≡ Some x → x.body ≡ MaybeDefinitionListTitle
      → is_definition_list (top_body f) ≡ true → Opened (definitions_by f c x.start x.«end» MaybeDefinitionListTitle)
  unfolding title_taken
  after_title c x current here body inside =
      let b : body_at f.nodes c.0 ≡ Some MaybeDefinitionListTitle = body_of f c x here ∙ ap (λ z. Some z) body in
      let title : possible_title f ≡ Some c = rw (current, b, inside) refl in
      let e : ℕ = top_end f in
      let l = innermost_list (TitleAt e c.0) inside (title_is f c title).closed in
      let os : List ℕ = map (λ (i : TreeIndex). i.0) l.rest in
      let now : List (ℕ × Item) = title_taken f.nodes c.0 in
      let size : length now ≡ length f.nodes = length-modify f.nodes c.0 (λ y. record y { body = DefinitionListTitle }) in
      let k = l.inner.completes in
      let below : AreBelow c.0 (l.ix.0 ∷ os) =
      subst (λ (s : List TreeIndex). AreBelow c.0 (map (λ (i : TreeIndex). i.0) s)) l.spine (current_after f c w.forest current w.ready.completes.below) in
      record {
        ix = l.ix;
        rest = l.rest;
        frames = l.inner.outer;
        loose = l.loose;
        spine = l.spine;
        are_open = open_below d.options f.nodes now c.0 (l.ix ∷ l.rest) (InDefinitions l.loose ∷ l.inner.outer)
            (λ i h. ap (option_and_then (frame_of d.options)) (body-other f.nodes c.0 i (λ y. record y { body = DefinitionListTitle }) h)) below
            l.inner.are_open;
        below = subst (λ n. AreBelow n (l.ix.0 ∷ os)) (sym size) k.below;
        same = sym l.inner.path;
        completes = completes-title_definition d (open_nodes defined l.inner.outer f.nodes os) (record { place = l.ix.0; «end» = e; loose = l.loose }) c.0 run
            (record { columns = w.columns; start = offset w.place; line = w.place.line }) (opens_at _ l.inner.level) k;
      }

  -- after a definition
  after_definition : (c : TreeIndex) (x : Item) (n : ℕ) → f.current ≡ Some c → item_at f c ≡ Some x → x.body ≡ DefinitionListDefinition n
      → is_definition_list (top_body f) ≡ true → Opened f
  after_definition c x n current here body inside =
      let b : body_at f.nodes c.0 ≡ Some (DefinitionListDefinition n) = body_of f c x here ∙ ap (λ z. Some z) body in
      let none : possible_title f ≡ None = rw (current, b) refl in
      let top = definition_list_is (top_body f) inside in
      let closed = closed_definition f top.0 top.1 none in
      let l = innermost_list (DefinitionClosed (end_of_current f) closed.0) inside closed.1 in
      let k = l.inner.completes in
      record {
        ix = l.ix;
        rest = l.rest;
        frames = l.inner.outer;
        loose = l.loose;
        spine = l.spine;
        are_open = l.inner.are_open;
        below = k.below;
        same = sym l.inner.path;
        completes = completes-definition d (open_nodes defined l.inner.outer f.nodes (map (λ (i : TreeIndex). i.0) l.rest))
            (record { place = l.ix.0; «end» = end_of_current f; loose = l.loose }) closed.0 run
            (record { columns = w.columns; start = offset w.place; line = w.place.line }) (opens_at _ l.inner.level) k;
      }

  opened_by : (c : TreeIndex) (x : Item) (b : ItemBody) → f.current ≡ Some c → item_at f c ≡ Some x → x.body ≡ b
      → precedes_definition (top_body f) (Some b) ≡ true → Opened (definitions_by f c x.start x.«end» b)
  opened_by c x ParagraphBody current here body may = after_paragraph c x current here body (not-true (is_list (top_body f)) may)
  opened_by c x MaybeDefinitionListTitle current here body may = after_title c x current here body may
  opened_by c x (DefinitionListDefinition n) current here body may =
      after_definition c x n current here body (and_parts (is_definition_list (top_body f)) (not (n == 0)) may).0
  opened_by c x b current here body may = cc

  opened_at : (c : TreeIndex) (o : Option (ℕ × Item)) → f.current ≡ Some c → slice_get f.nodes c.0 ≡ o
      → precedes_definition (top_body f) (option_map (λ n. n.1.body) o) ≡ true → Opened (definitions_at f c (option_map (λ n. n.1) o))
  opened_at c None current here may = cc
  opened_at c (Some n) current here may = opened_by c n.1 n.1.body current (ap (option_map (λ n. n.1)) here) refl may

  opened_with : (o : Option TreeIndex) → f.current ≡ o → precedes_definition (top_body f) (option_and_then (λ ix. body_at f.nodes ix.0) o) ≡ true
      → Opened (definitions_opened f o)
  opened_with None current may = cc
  opened_with (Some c) current may = opened_at c (slice_get f.nodes c.0) current refl may

-- a definition is open in its list
begun_in : (d : Document) (defined : Tables) (path : List Container) (g : Forest Item) (columns start : ℕ) (from : Continues) (lines : List Place)
    → ListIsOpen d defined false path g.nodes g.spine columns start from lines
    → IsBegun d defined (with_open g (definition_node start 0 columns)) (Definition columns) from lines path
begun_in d defined path g columns start from lines l =
    let x : Item = definition_node start 0 columns in
    let frames : List Frame = InDefinitions (l.loose || false) ∷ l.frames in
    subst (IsBegun d defined (with_open g x) (Definition columns) from lines) l.same
    (begun_ready d defined g x (Definition columns) frames from lines refl refl
    (subst (λ s. AreOpen d.options g.nodes s frames) (sym l.spine)
    (subst (λ t. AreOpen d.options g.nodes (l.ix ∷ l.rest) (InDefinitions t ∷ l.frames)) (sym (or-false l.loose)) l.are_open))
    (subst (λ (s : List TreeIndex). CompletesAt d defined fresh (InContainer (Definition columns) ∷ frames)
    (g.nodes ++ (suc (length (map (λ (i : TreeIndex). i.0) s)), x) ∷ []) (length g.nodes ∷ map (λ (i : TreeIndex). i.0) s) from lines) (sym l.spine)
    l.completes))

-- the list becomes loose if a blank line is before the definition
loosened : (d : Document) (defined : Tables) (run : Bool) (path : List Container) (g : Forest Item) (columns start : ℕ) (from : Continues)
    (lines : List Place) → ListIsOpen d defined run path g.nodes g.spine columns start from lines
    → (let h : Forest Item = if run then loosened_top g g.spine else g in
    IsBegun d defined (with_open h (definition_node start 0 columns)) (Definition columns) from lines path)
unfolding reflagged
loosened d defined true path g columns start from lines l =
    let ix : TreeIndex = l.ix in
    let os : List ℕ = map (λ (i : TreeIndex). i.0) l.rest in
    let x : ℕ × Item = (suc (suc (length os)), definition_node start 0 columns) in
    let flags : ListFlags = list_flags (not l.loose) in
    let b = has_frame d.options (body_at g.nodes ix.0) (InDefinitions l.loose) l.are_open.0 in
    let h : Forest Item = loosened_at g ix in
    let now : List (ℕ × Item) = reflagged g.nodes ix.0 true in
    let nodes : h.nodes ≡ now = loose_is g ix (DefinitionList flags) flags b refl in
    let size : length now ≡ length g.nodes = length-reflagged g.nodes ix.0 true in
    let frames : Bool → List Frame = λ t. InContainer (Definition columns) ∷ InDefinitions t ∷ l.frames in
    subst (λ (z : Forest Item). IsBegun d defined (with_open z (definition_node start 0 columns)) (Definition columns) from lines path)
    (sym (ap (loosened_top g) l.spine)) (begun_in d defined path h columns start from lines
    (subst (λ z. ListIsOpen d defined false path z h.spine columns start from lines) (sym nodes) (record {
      ix = ix;
      rest = l.rest;
      frames = l.frames;
      loose = true;
      spine = loosened_spine g ix (body_at g.nodes ix.0) ∙ l.spine;
      are_open = (
        ap (λ z. frame_at d.options z ix.0) (sym nodes)
            ∙ loose_frame d.options g ix (DefinitionList flags) flags (InDefinitions l.loose) b refl l.are_open.0
            ∙ ap (λ t. Some (InDefinitions t)) (or-true l.loose),
        open_below d.options g.nodes now ix.0 l.rest l.frames (λ i e. ap (option_and_then (frame_of d.options)) (body-other g.nodes ix.0 i _ e)) l.below.1
            l.are_open.1,
        refl,
      );
      below = subst (λ n. AreBelow n (ix.0 ∷ os)) (sym size) l.below;
      same = l.same;
      completes = subst (λ n. CompletesAt d defined fresh (frames true) (now ++ x ∷ []) (n ∷ ix.0 ∷ os) from lines) (sym size)
          (subst (λ z. CompletesAt d defined fresh (frames true) z (length g.nodes ∷ ix.0 ∷ os) from lines)
          (modify-append g.nodes (x ∷ []) ix.0 (λ y. record y { body = flagged true y.body }) l.below.0)
          (completes-reflag d (open_nodes defined l.frames (g.nodes ++ x ∷ []) os) fresh (InDefinitions true) (Definition columns) (length g.nodes) ix.0
          from lines tt tt (subst (λ t. CompletesAt d defined fresh (frames t) (g.nodes ++ x ∷ []) (length g.nodes ∷ ix.0 ∷ os) from lines)
          (or-true l.loose) l.completes)));
    })))
loosened d defined false path g columns start from lines l = begun_in d defined path g columns start from lines l

kept_as : (r : PassState) (g : Forest Item) (run : Bool) → r.blank ≡ run → r.begin_list_item ≡ None
    → (let q : PassState = if run then record (with_tree r g) { tree = loosened_top g g.spine; blank = false } else with_tree r g in
    (q.tree ≡ (if run then loosened_top g g.spine else g)) × (q.blank ≡ false) × (q.begin_list_item ≡ None))
kept_as r g true is none = (refl, refl, none)
kept_as r g false is none = (refl, is, none)

pub definition_is_open : (d : Document) (defined : Tables) (r : PassState) (p : Place) (lines following : List Place) (columns : ℕ) (from : Continues)
    → MayBegin d defined r p lines → may_begin_definition r.tree ≡ true
    → Opens d (level_of d.options r.tree r.blank) p lines (OpensNode (definition_head p columns) from following)
    → HasBegun d defined r (definition_begun (offset p) columns r) (Definition columns) from following
unfolding definition_begun
definition_is_open d defined r p lines following columns from may takes opens =
    let g : Forest Item = definitions_opened r.tree r.tree.current in
    let path : List Container = path_of d.options r.tree in
    let kept = kept_as r g r.blank refl may.none in
    let l = opened_with d defined r.tree r.blank
    (record { place = p; lines = lines; columns = columns; inside = from; following = following; forest = may.forest; opens = opens; ready = may.ready })
    r.tree.current refl takes in
    let done = loosened d defined r.blank path g columns (offset p) from following l in
    record {
      is_begun = subst (λ (h : Forest Item). IsBegun d defined (with_open h (definition_node (offset p) 0 columns)) (Definition columns) from following path)
          (sym kept.0) done;
      blank = kept.1;
      none = kept.2;
    }
