-- A container is opened at a place in a line: a block quote, a list item in its list, or a definition; also one whose line
-- ends after its markers.
use Rattle.std.proofs.Common.{◌≡◌, ℕ, ◌+◌, Bool, true, false, List, ◌∷◌, ◌++◌, length, map, Option, Some, None, refl, sym, ap, subst, ◌∙◌, arith, if◌then◌else◌}
use Rattle.std.proofs.Common.{length-append, suc, ◌||◌, slice_get, MatchOption, append_assoc, option_map, option_and_then, []}
use Rattle.first_pass_grammar.proofs.Common.{Item, ItemBody, DefinitionListDefinition, DefinitionList, Options, TreeIndex, Forest, modify, with_body_at}
use Rattle.first_pass_grammar.proofs.Common.{body_at, appended, modify-at, Rest, Place, offset, start_of, line_end, is_paragraph_body, at_rest, is_blank_rest}
use Rattle.first_pass_grammar.proofs.Common.{Document, around, item_start, definition_head, definition_start, after_task, quote_begun, Start, start_at}
use Rattle.first_pass_grammar.proofs.Common.{Continues, after_marker, only_task, next_is_blank, opening_of, OpensNode, Opens, Inside, AtPlace, TextOf, Opening}
use Rattle.first_pass_grammar.proofs.Common.{may_define, after_tag, Tables, node_of, list_flags, OtherClosed, AreBelow, Closed, DefinitionClosed, lines_from}
use Rattle.first_pass_grammar.proofs.Common.{Frame, InContainer, InList, containers_of, IsPlain, nat_tests, or-false, ListFlags, BlockQuoteKind, body-other}
use Rattle.first_pass_grammar.proofs.Common.{footnote_head_at, is_task_marker, Blanks}
use Rattle.first_pass_containers.proofs.Common.{path_in, path_of, container_of, with_container, PassState, Container, get_front, quote_start, item_opened}
use Rattle.first_pass_containers.proofs.Common.{open_below, frame-append, get_end, open_path, HasFrame, ListItem, Definition, BlockQuote, path_below}
use Rattle.first_pass_containers.proofs.Common.{CompletesAt, modify-append, item_head, quote_head, other_list, tail, lvl, opens_stays, completes-reflag_list}
use Rattle.first_pass_containers.proofs.Common.{open_nodes, ready_as, Innermost, innermost_of, with_child, ReadyOn, ReadyTagged}
use Rattle.first_pass_items.specs.declared.item.ItemBody.TheVariants.{ListItem as ListItemBody, BlockQuote as BlockQuoteBody, List as ListBody}
use Rattle.first_pass_completion.proofs.Completions.{fresh, completes-mark}
use Rattle.first_pass_completion.proofs.TitleNodes.{reflagged}
use Rattle.first_pass_lists.specs.Closing.{top_body, is_list, may_begin_definition, list_continued, list_kept, with_tree, definitions_opened, definition_begun}
use Rattle.first_pass_lists.specs.Closing.{loosened_at, is_list_of, empty_item_closed_by, empty_item_closed, list_finished, loosened_top, begun, state_with}
use Rattle.first_pass_ready.specs.State.{closed_in, item_columns, top_without_indent, ReadyAt, ReadyBeforeLine, ReadyEmpty, Ready, frame_at, frame_of, AreOpen}
use Rattle.first_pass_ready.proofs.ClosedIn.{level_of, closed_at_body, no_paragraph, open_level, top_in}
use Rattle.first_pass_ready.proofs.ItemBodies.{item_body, item_container, item_columns_of, item_kind, item_path, without_indent_is}
use Rattle.first_pass_containers.proofs.OrderSteps.{marked_open}
use Rattle.first_pass_ready.proofs.BegunLemmas.{depth_of, with_open, top_opened, IsBegun, plain_open, opened_too, HasBegun, begun_ready, opens_start}
use Rattle.first_pass_ready.proofs.DefinitionOpened.{definition_is_open}
use Rattle.first_pass_lists.specs.declared.list.ListMarker.{ListMarker}
use Rattle.first_pass_grammar.specs.OpenOrder.{is_in_item}
use Rattle.first_pass_completion.proofs.ContainerSteps.{completes-quote, completes-list, completes-item}
use Rattle.first_pass_containers.specs.Starts.{marker_of, after_at, IsAfterMarker}
use Rattle.first_pass_ready.proofs.FinishLemmas.{EndsListAt, Finished, MayBegin, OpensOther, ready_finished, loose_is, loose_frame, loosened_spine}

-- the opening of a quote opens a block, and ends any list at its line
quote_away : (b : Option ItemBody) (closed : Closed) (p : Place) (kind : Option BlockQuoteKind) (following : List Place) (inside : Continues)
    → EndsListAt p.line b closed (OpensNode (quote_head p kind) inside following)
quote_away (Some (ListBody flags list number)) closed p kind following inside = (refl, refl)
quote_away (Some (DefinitionList flags)) (DefinitionClosed e blanks) p kind following inside = (refl, refl)
quote_away b closed p kind following inside = tt

-- the start of a container, if one may begin
abbrev pub begins_at : Document → PassState → Place → Option Start
begins_at d r p = start_at d.options (may_define d (level_of d.options r.tree r.blank)) p

-- A container begins at the place of a state: blocks may begin there, no footnote definition does, and no item is empty.
pub record ContainerBegins (d : Document) (defined : Tables) (r : PassState) (p : Place) (lines : List Place) (s : Start) : Type 0 where
  pub may : MayBegin d defined r p lines
  pub bare : footnote_head_at (around d (path_of d.options r.tree)) p ≡ None
  pub begins : begins_at d r p ≡ Some s

-- the opening of an item opens a block. It ends a list of another byte, or a definition list, where the item starts.
item_away : (b : Option ItemBody) (closed : Closed) (p : Place) (byte number columns : ℕ) (inside : Continues) (lines : List Place)
    → is_list_of byte b ≡ false → EndsListAt (offset p) b closed (OpensNode (item_head p byte number columns) inside lines)
item_away (Some (ListBody flags list n)) closed p byte number columns inside lines other = (refl, other)
item_away (Some (DefinitionList flags)) (DefinitionClosed e blanks) p byte number columns inside lines other = (refl, refl)
item_away b closed p byte number columns inside lines other = tt

list_frame : (options : Options) (flags : ListFlags) (byte number : ℕ) (frame : Frame) → HasFrame options (Some (ListBody flags byte number)) frame
    → (loose : Bool) × (frame ≡ InList byte loose)
list_frame options flags byte number (InList b loose) h = let list = h.1 in (loose, cc)
list_frame options flags byte number frame h = cc

-- the marker of a list item that was read
pub item_found : (o : Option ((ℕ × ℕ × ℕ) × Rest)) (found : Option ListMarker) (m : ListMarker) (old new : Rest) → found ≡ Some m
    → MatchOption o ((found ≡ None) × (new ≡ old)) (λ item. (found ≡ Some (marker_of item.0)) × (new ≡ item.1)) → o ≡ Some ((m.byte, m.number, m.indent), new)
item_found None found m old new e h = cc
item_found (Some (item, rest)) found m old new e h = grind (arith, e, h)

-- the place where blocks continue after the markers of an item
abbrev pub past_task : Option Item → Place → Continues
past_task None p = Inside p
past_task (Some marker) p = AtPlace p (TextOf marker)

-- what follows an item's marker if more of its line is left: blocks, or the text of a task
pub after_opened : (marker : Option Item) (q : PassState) → ((x : Item) → marker ≡ Some x → is_task_marker x.body ≡ true) → q.begin_list_item ≡ None
    → is_in_item q.tree ≡ true → IsAfterMarker (after_task marker) q
after_opened None q mark none inside = none
after_opened (Some x) q mark none inside = (mark x refl, none, inside)

pub ready_after : (d : Document) (defined : Tables) (r : PassState) (p : Place) (e : ℕ) (marker : Option Item) → line_end p ≡ e
    → (r.blank ≡ false) × (now : ReadyAt d defined r.tree false (past_task marker p) (lines_from d.text e)) × IsPlain now.frames
    → ReadyOn d defined r (after_at p e (after_task marker))
ready_after d defined r p e None ends (blank, ready, plain) = rw (ends, blank) ready
ready_after d defined r p e (Some x) ends (blank, ready, plain) = rw ends (record { blank = blank; ready = ready; plain = plain })

-- ---- an item or a definition whose line ends after its markers

-- a task list item marker, if there is one, is no paragraph
abbrev pub IsNoParagraph : Option Item → Type 0
IsNoParagraph marker = (x : Item) → marker ≡ Some x → is_paragraph_body x.body ≡ false

-- a task list item marker with nothing after it, in the innermost open node, which is no list
ready_marked : (d : Document) (defined : Tables) (f : Forest Item) (marker : Option Item) (p : Place) (blanks : Option ℕ) (lines : List Place)
    → IsNoParagraph marker → ((m : Option Item) → is_list (top_body (with_child f m)) ≡ false) → ReadyAt d defined f false (only_task marker p blanks) lines
    → ReadyAt d defined (with_child f marker) false (after_marker blanks) lines
ready_marked d defined f None p blanks lines other top ready = ready
ready_marked d defined f (Some x) p blanks lines other top ready =
    let os : List ℕ = map (λ (i : TreeIndex). i.0) f.spine in
    let g : Forest Item = appended f x in
    let from : Continues = after_marker blanks in
    let k = completes-mark d (open_nodes defined ready.frames f.nodes os) (closed_in f) x p blanks lines
    (plain_open d.options f ready.frames ready.are_open (top None)) (other x refl) ready.completes in
    let closed : closed_in g ≡ OtherClosed =
    closed_at_body g (record { 0 = length f.nodes }) x.body (other_list (top_body g) (top (Some x))) refl
    (get_end f.nodes (length f.spine + 1, x) [] (length f.nodes) refl)
    ∙ no_paragraph (length f.nodes) x.body (other x refl) in
    ready_as d defined g false from lines ready.frames OtherClosed closed
    (open_below d.options f.nodes g.nodes (length f.nodes) f.spine ready.frames
    (λ i h. frame-append d.options f.nodes ((length f.spine + 1, x) ∷ []) i h) ready.completes.below ready.are_open) tt
    (subst (λ z. CompletesAt d defined fresh ready.frames (f.nodes ++ (z, x) ∷ []) os from lines) (depth_of f.spine) k)

marked_spine : (f : Forest Item) (marker : Option Item) → (with_child f marker).spine ≡ f.spine
marked_spine f None = refl
marked_spine f (Some x) = refl

marked_path : (options : Options) (f : Forest Item) (marker : Option Item)
    → AreBelow (length f.nodes) (map (λ (i : TreeIndex). i.0) f.spine) → path_of options (with_child f marker) ≡ path_of options f
marked_path options f None below = refl
marked_path options f (Some x) below = path_below options f.nodes (f.nodes ++ (length f.spine + 1, x) ∷ []) (length f.nodes) f.spine
    (λ i h. ap (option_map (λ (n : ℕ × Item). n.1.body)) (get_front f.nodes _ i h)) below

-- An item of a tree, opened last with a number of columns.
module _ (b : ItemBody) (g : Forest Item) (start : ℕ) where
  abbrev with_columns : ℕ → Forest Item
  with_columns n = with_open g (node_of start 0 (item_body b n))

  abbrev place : TreeIndex
  place = record { 0 = length g.nodes }

  longer : (n : ℕ) → length (with_columns n).nodes ≡ length g.nodes + 1
  longer n = length-append g.nodes ((length g.spine + 1, node_of start 0 (item_body b n)) ∷ [])

  -- the path with the item
  opened_path : (options : Options) (n : ℕ) → AreBelow (length g.nodes) (map (λ (i : TreeIndex). i.0) g.spine)
      → path_of options (with_columns n) ≡ item_container b n ∷ path_in options g.nodes g.spine
  opened_path options n below =
      let nodes : List (ℕ × Item) = (with_columns n).nodes in
      ap (λ o. with_container (option_and_then (container_of options) o) (path_in options nodes g.spine)) (top_opened g (node_of start 0 (item_body b n)))
      ∙ ap (λ o. with_container o (path_in options nodes g.spine)) (item_path options b n) ∙ ap (λ z. item_container b n ∷ z)
      (path_below options g.nodes nodes (length g.nodes) g.spine (λ i h. ap (option_map (λ (n : ℕ × Item). n.1.body)) (get_front g.nodes _ i h)) below)

  -- a container that takes only blank lines, with a task list item marker after it or without one
  named_marked : (n : ℕ) (marker : Option Item) → with_body_at (with_child (with_columns n) marker) place (item_body b 0) ≡ with_child (with_columns 0) marker
  named_marked n None = grind (arith, modify-at)
  named_marked n (Some y) =
      let more : List (ℕ × Item) = (length (with_columns n).spine + 1, y) ∷ [] in
      let change : Item → Item = λ x. record { start = x.start; «end» = x.«end»; body = item_body b 0 } in
      let nodes : modify ((with_columns n).nodes ++ more) (length g.nodes) change ≡ (with_columns 0).nodes ++ more =
      modify-append (with_columns n).nodes more (length g.nodes) change (let l = longer n in omega arith)
      ∙ ap (λ z. z ++ more) (modify-at g.nodes [] (length g.spine + 1, node_of start 0 (item_body b n)) (length g.nodes) change refl) in
      ap (λ ns. record (appended (with_columns n) y) { nodes = ns }) nodes
      ∙ ap (λ k. record (appended (with_columns 0) y) { current = Some (record { 0 = k }) }) (longer n ∙ sym (longer 0))

  without_indent_marked : (n : ℕ) (marker : Option Item) → top_without_indent (with_child (with_columns n) marker) ≡ with_child (with_columns 0) marker
  without_indent_marked n marker = grind (arith, marked_open, without_indent_is, marked_spine, named_marked)

-- the state after the markers of an empty item
abbrev pub empty_item_read : PassState → Option Item → ℕ → PassState
empty_item_read r marker e = record r { tree = with_child r.tree marker; begin_list_item = Some e }

-- if the next line is blank too, the item or definition takes only blank lines
abbrev columns_by : Bool → ℕ → ℕ
columns_by t n = if t then 0 else n

abbrev blanks_by : Bool → ℕ → Option ℕ
blanks_by t e = if t then Some e else None

module _ (d : Document) (defined : Tables) (b : ItemBody) (g : Forest Item) (start columns : ℕ) (marker : Option Item) (p : Place) (lines : List Place)
    (e : ℕ) (path : List Container) (other : IsNoParagraph marker) where
  abbrev full : Forest Item
  full = with_columns b g start columns

  -- the item or definition is opened; if true, it takes only blank lines and has no columns
  abbrev IsOpenFor : Bool → Type 0
  IsOpenFor t =
      IsBegun d defined (with_columns b g start (columns_by t columns)) (item_container b (columns_by t columns)) (only_task marker p (blanks_by t e)) lines
      path

  opened_last : (n : ℕ) (m : Option Item) → is_list (top_body (with_child (with_columns b g start n) m)) ≡ false
  opened_last n m = ap is_list (marked_open g (node_of start 0 (item_body b n)) m) ∙ (item_kind b n).1

  before_line : (t : Bool) → IsOpenFor t → ReadyBeforeLine d defined (with_child full marker) e lines t
  before_line true begun =
      subst (λ f. ReadyAt d defined f false (Blanks e) lines) (sym (without_indent_marked b g start columns marker))
      (ready_marked d defined (with_columns b g start 0) marker p (Some e) lines other (opened_last 0) begun.ready)
  before_line false begun = ready_marked d defined full marker p None lines other (opened_last columns) begun.ready

  empty_is : (t blank : Bool) → blank ≡ false → next_is_blank (item_container b columns ∷ path) lines ≡ t → IsOpenFor t
      → ReadyEmpty d defined (state_with (with_child full marker) (Some e) blank) e lines
  empty_is t blank uncounted next begun =
      let below = begun.ready.completes.below in
      let all_below : AreBelow (length full.nodes) (map (λ (i : TreeIndex). i.0) full.spine) =
      subst (λ k. AreBelow k (map (λ (i : TreeIndex). i.0) full.spine)) (longer b g start (columns_by t columns) ∙ sym (longer b g start columns)) below in
      let outer : path_in d.options g.nodes g.spine ≡ path =
      (let e = sym (opened_path b g start d.options (columns_by t columns) below.1) ∙ begun.path_is in cc) in
      let path_is : path_of d.options (with_child full marker) ≡ item_container b columns ∷ path =
      marked_path d.options full marker all_below ∙ opened_path b g start d.options columns below.1 ∙ ap (λ z. item_container b columns ∷ z) outer in
      record {
        place = place b g start;
        outer = g.spine;
        columns = columns;
        spine = marked_spine full marker;
        item = ap (option_and_then item_columns)
            (sym (ap (top_in (with_child full marker).nodes) (marked_spine full marker)) ∙ marked_open g (node_of start 0 (item_body b columns)) marker)
            ∙ item_columns_of b columns;
        none = λ some. cc;
        ready = rw uncounted (subst (ReadyBeforeLine d defined (with_child full marker) e lines)
            (sym (ap (λ z. next_is_blank z lines) path_is ∙ next)) (before_line t begun));
      }

-- nothing follows the markers of a container in its line, and the next line begins at an offset
pub record EndsLine (d : Document) (rest : Rest) (lines : List Place) (e : ℕ) : Type 0 where
  pub blank : is_blank_rest rest ≡ true
  pub next : start_of (length d.text) lines ≡ e

-- the opening of an empty item, and of an empty definition, from its markers
item_opens : (d : Document) (path : List Container) (p : Place) (lines : List Place) (m : ListMarker) (marker : Option Item) (rest : Rest) (e : ℕ)
    (t : Bool) → EndsLine d rest lines e → next_is_blank (ListItem m.indent ∷ path) lines ≡ t
    → opening_of d path p lines (item_start p (m.byte, m.number, m.indent) (marker, rest))
    ≡ OpensNode (item_head p m.byte m.number (columns_by t m.indent)) (only_task marker (at_rest p rest) (blanks_by t e)) lines
item_opens d path p lines m marker rest e t over n = grind (arith, n, over.blank, over.next)

definition_opens : (d : Document) (path : List Container) (p : Place) (lines : List Place) (columns : ℕ) (rest : Rest) (e : ℕ) (t : Bool)
    → EndsLine d rest lines e → next_is_blank (Definition columns ∷ path) lines ≡ t
    → opening_of d path p lines (definition_start p (columns, rest))
    ≡ OpensNode (definition_head p (columns_by t columns)) (only_task None (at_rest p rest) (blanks_by t e)) lines
definition_opens d path p lines columns rest e t over n = grind (arith, n, over.blank, over.next)

-- A container is opened at the place of a state.
module _ (d : Document) (defined : Tables) (r : PassState) (p : Place) (lines : List Place) where
  abbrev OpensHere : Opening → Type 0
  OpensHere opening = Opens d (level_of d.options r.tree r.blank) p lines opening

  -- the opening there, over the frames
  finished_opens : (new : PassState) (opening : Opening) (done : Finished d defined r new p lines opening)
      → Opens d (lvl done.ready.0.frames (tail (closed_in new.tree) false)) p lines opening
  finished_opens new opening done =
      subst (λ z. Opens d z p lines opening) (open_level d.options new.tree done.ready.0.frames false done.ready.0.are_open) done.opens

  finished_path : (new : PassState) (opening : Opening) (done : Finished d defined r new p lines opening)
      → containers_of done.ready.0.frames ≡ path_of d.options r.tree
  finished_path new opening done = sym (open_path d.options new.tree.nodes new.tree.spine done.ready.0.frames done.ready.0.are_open) ∙ done.path

  -- a block quote of a kind is open, for any place where blocks continue in it
  quote_is_open : (kind : Option BlockQuoteKind) (inside : Continues) (following : List Place) → MayBegin d defined r p lines
      → OpensHere (OpensNode (quote_head p kind) inside following)
      → HasBegun d defined r (begun (quote_start p) (BlockQuoteBody kind) (list_finished p.line r)) (BlockQuote kind) inside following
  quote_is_open kind inside following may opens =
      let opening : Opening = OpensNode (quote_head p kind) inside following in
      let q : PassState = list_finished p.line r in
      let begins : OpensOther d (path_of d.options r.tree) p opening =
      record { stays = opens_stays d (level_of d.options r.tree r.blank) p lines opening refl opens; block = tt; other = refl } in
      let done = ready_finished d defined r p lines p.line opening may begins opens
      (quote_away (top_body r.tree) (closed_in r.tree) p kind following inside) in
      let f : Forest Item = q.tree in
      let now = done.ready.0 in
      let k = completes-quote d (open_nodes defined now.frames f.nodes (map (λ (i : TreeIndex). i.0) f.spine)) (closed_in f) kind (quote_start p) p.line
      (record { place = p; lines = lines; inside = inside; following = following; opens = finished_opens q opening done }) done.ready.1 now.completes in
      record {
        is_begun = subst (IsBegun d defined (with_open f (node_of (quote_start p) 0 (BlockQuoteBody kind))) (BlockQuote kind) inside following)
            (finished_path q opening done)
            (begun_ready d defined f (node_of (quote_start p) 0 (BlockQuoteBody kind)) (BlockQuote kind) now.frames inside following refl refl now.are_open
            k);
        blank = done.blank;
        none = done.none;
      }

  -- the start of a container opens it
  begins_open : (s : Start) → ContainerBegins d defined r p lines s → OpensHere (opening_of d (path_of d.options r.tree) p lines s)
  begins_open s b = opens_start d (level_of d.options r.tree r.blank) p lines s b.bare b.begins

  -- a block quote without a tag
  pub ready_quote : (inside : Rest) → ContainerBegins d defined r p lines (quote_begun p None inside)
      → (let q : PassState = begun (quote_start p) (BlockQuoteBody None) (list_finished p.line r) in
      ReadyAt d defined q.tree q.blank (Inside (at_rest p inside)) lines)
  ready_quote inside b =
      let now = quote_is_open None (Inside (at_rest p inside)) lines b.may (begins_open (quote_begun p None inside) b) in
      rw now.blank now.is_begun.ready

  -- a block quote with one
  pub ready_tagged : (inside : Rest) (kind : BlockQuoteKind) → ContainerBegins d defined r p lines (quote_begun p (Some kind) inside)
      → ReadyTagged d defined (begun (quote_start p) (BlockQuoteBody (Some kind)) (list_finished p.line r)) lines
  ready_tagged inside kind b =
      let from : Continues × List Place = after_tag (around d (BlockQuote (Some kind) ∷ path_of d.options r.tree)) lines in
      let now = quote_is_open (Some kind) from.0 from.1 b.may (begins_open (quote_begun p (Some kind) inside) b) in
      record {
        kind = Some kind;
        quote = top_opened (list_finished p.line r).tree (node_of (quote_start p) 0 (BlockQuoteBody (Some kind)));
        blank = now.blank;
        ready = rw now.is_begun.path_is now.is_begun.ready;
      }

  module _ (byte number columns : ℕ) (inside : Continues) (may : MayBegin d defined r p lines)
      (opens : OpensHere (OpensNode (item_head p byte number columns) inside lines)) where
    abbrev ItemIsOpen : PassState → Type 0
    ItemIsOpen q = HasBegun d defined r q (ListItem columns) inside lines

    abbrev item : Item
    item = node_of (offset p) 0 (ListItemBody columns)

    abbrev opening : Opening
    opening = OpensNode (item_head p byte number columns) inside lines

    -- in a list that begins with the item
    in_new_list : is_list_of byte (top_body r.tree) ≡ false
        → ItemIsOpen (begun (offset p) (ListItemBody columns) (begun (offset p) (ListBody (list_flags true) byte number) (list_finished (offset p) r)))
    in_new_list other =
        let q : PassState = list_finished (offset p) r in
        let begins : OpensOther d (path_of d.options r.tree) p opening =
        record { stays = opens_stays d (level_of d.options r.tree r.blank) p lines opening refl opens; block = tt; other = refl } in
        let done = ready_finished d defined r p lines (offset p) opening may begins opens
        (item_away (top_body r.tree) (closed_in r.tree) p byte number columns inside lines other) in
        let f : Forest Item = q.tree in
        let frames : List Frame = done.ready.0.frames in
        let os : List ℕ = map (λ (i : TreeIndex). i.0) f.spine in
        let y : Item = node_of (offset p) 0 (ListBody (list_flags true) byte number) in
        let g : Forest Item = with_open f y in
        let k = completes-list d (open_nodes defined frames f.nodes os) (closed_in f) (list_flags true)
        (record { byte = byte; number = number; columns = columns; start = offset p; line = p.line })
        (record { place = p; lines = lines; inside = inside; following = lines; opens = finished_opens q opening done })
        done.ready.1 done.ready.0.completes in
        let n : length g.nodes ≡ suc (length f.nodes) = (let l = length-append f.nodes ((length f.spine + 1, y) ∷ []) in omega arith) in
        let deep : suc (length os) ≡ length f.spine + 1 = depth_of f.spine in
        let nodes : f.nodes ++ (suc (length os), y) ∷ (suc (suc (length os)), item) ∷ [] ≡ g.nodes ++ (suc (suc (length os)), item) ∷ [] =
        sym (append_assoc f.nodes ((suc (length os), y) ∷ []) ((suc (suc (length os)), item) ∷ []))
        ∙ ap (λ z. (f.nodes ++ (z, y) ∷ []) ++ (suc (suc (length os)), item) ∷ []) deep in
        let now : List Frame = InContainer (ListItem columns) ∷ InList byte false ∷ frames in
        let list_open : AreOpen d.options g.nodes g.spine (InList byte false ∷ frames) =
        opened_too d.options f.nodes (length f.spine + 1) y f.spine frames (InList byte false) refl refl done.ready.0.completes.below done.ready.0.are_open in
        record {
          is_begun = subst (IsBegun d defined (with_open g item) (ListItem columns) inside lines) (finished_path q opening done)
              (begun_ready d defined g item (ListItem columns) (InList byte false ∷ frames) inside lines refl refl list_open
              (subst (λ z. CompletesAt d defined fresh now (g.nodes ++ (suc (suc (length os)), item) ∷ []) (z ∷ length f.nodes ∷ os) inside lines) (sym n)
              (subst (λ z. CompletesAt d defined fresh now z (suc (length f.nodes) ∷ length f.nodes ∷ os) inside lines) nodes k)));
          blank = done.blank;
          none = done.none;
        }

    -- the list that continues, loose if a blank line is before the item
    kept_by : (run : Bool) → r.blank ≡ run → (ix : TreeIndex) (rest : List TreeIndex) → r.tree.spine ≡ ix ∷ rest
        → (let q : PassState = if run then record r { tree = loosened_top r.tree r.tree.spine; blank = false } else r in
        (q.tree ≡ (if run then loosened_at r.tree ix else r.tree)) × (q.blank ≡ false) × (q.begin_list_item ≡ None))
    kept_by true is ix rest spine = (ap (loosened_top r.tree) spine, refl, may.none)
    kept_by false is ix rest spine = (refl, is, may.none)

    -- the innermost open node is a list of items with this byte
    record InnermostList : Type 0 where
      list : TreeIndex
      rest : List TreeIndex
      flags : ListFlags
      first : ℕ
      loose : Bool
      spine : r.tree.spine ≡ list ∷ rest
      body : body_at r.tree.nodes list.0 ≡ Some (ListBody flags byte first)
      inner : Innermost d defined r.tree r.blank (Inside p) lines list rest (closed_in r.tree) (InList byte loose)

    goes_on_as : (l : InnermostList) (run : Bool) → (let f : Forest Item = if run then loosened_at r.tree l.list else r.tree in
        AreOpen d.options f.nodes (l.list ∷ l.rest) (InList byte (l.loose || run) ∷ l.inner.outer)
        × CompletesAt d defined (tail (closed_in r.tree) r.blank) (InList byte l.loose ∷ l.inner.outer) f.nodes
        (l.list.0 ∷ map (λ i. i.0) l.rest) (Inside p) lines
        × (f.spine ≡ l.list ∷ l.rest))
    unfolding reflagged
    goes_on_as l true =
        let ix : TreeIndex = l.list in
        let body : ItemBody = ListBody l.flags byte l.first in
        let nodes = loose_is r.tree ix body l.flags l.body refl in
        let outer : AreOpen d.options (loosened_at r.tree ix).nodes l.rest l.inner.outer =
        open_below d.options r.tree.nodes _ ix.0 l.rest l.inner.outer (λ i h.
        ap (λ z. frame_at d.options z i) nodes ∙ ap (option_and_then (frame_of d.options)) (body-other r.tree.nodes ix.0 i _ h))
        l.inner.completes.below.1 l.inner.are_open.1 in (
          (loose_frame d.options r.tree ix body l.flags (InList byte l.loose) l.body refl l.inner.are_open.0, outer, refl),
          rw nodes (completes-reflag_list d (open_nodes defined l.inner.outer r.tree.nodes (map (λ i. i.0) l.rest)) (tail (closed_in r.tree) r.blank) byte
              l.loose ix.0 (Inside p) lines l.inner.completes),
          loosened_spine r.tree ix (body_at r.tree.nodes ix.0) ∙ l.spine,
        )
    goes_on_as l false =
        ((l.inner.are_open.0 ∙ ap (λ z. Some (InList byte z)) (sym (or-false l.loose)), l.inner.are_open.1, refl), l.inner.completes, l.spine)

    in_list : (l : InnermostList)
        → IsBegun d defined (with_open (if r.blank then loosened_at r.tree l.list else r.tree) item) (ListItem columns) inside lines (path_of d.options r.tree)
    in_list l =
        let f : Forest Item = if r.blank then loosened_at r.tree l.list else r.tree in
        let now = goes_on_as l r.blank in
        let done = completes-item d (open_nodes defined l.inner.outer f.nodes (map (λ (i : TreeIndex). i.0) l.rest)) (closed_in r.tree) r.blank l.loose
        l.list.0 (record { byte = byte; number = number; columns = columns; start = offset p; line = p.line }) (record {
          place = p;
          lines = lines;
          inside = inside;
          following = lines;
          opens = subst (λ z. Opens d z p lines opening) l.inner.level opens;
        }) now.1 in
        subst (IsBegun d defined (with_open f item) (ListItem columns) inside lines) (sym l.inner.path)
        (begun_ready d defined f item (ListItem columns) (InList byte (l.loose || r.blank) ∷ l.inner.outer) inside lines refl refl (rw now.2 now.0)
        (rw now.2 done))

    in_list_by : (s : List TreeIndex) (b : Option ItemBody)
        → r.tree.spine ≡ s → option_and_then (λ (ix : TreeIndex). body_at r.tree.nodes ix.0) (slice_get s 0) ≡ b → is_list_of byte b ≡ true
        → ItemIsOpen (begun (offset p) (ListItemBody columns) (list_kept r))
    in_list_by s None spine is same = cc
    in_list_by [] (Some b) spine is same = cc
    in_list_by (ix ∷ rest) (Some (ListBody flags list n)) spine is same =
        let kept = kept_by r.blank refl ix rest spine in
        let equal : list ≡ byte = grind (arith, nat_tests, same) in
        let body : body_at r.tree.nodes ix.0 ≡ Some (ListBody flags byte n) = rw equal at is in
        let i = innermost_of d defined r.tree r.blank (Inside p) lines ix rest spine may.ready in
        let (loose, framed) = list_frame d.options flags byte n i.0 (subst (λ z. HasFrame d.options z i.0) body i.1) in
        let l : InnermostList = record {
          list = ix;
          rest = rest;
          flags = flags;
          first = n;
          loose = loose;
          spine = spine;
          body = body;
          inner = subst (Innermost d defined r.tree r.blank (Inside p) lines ix rest (closed_in r.tree)) framed i.2;
        } in
        record { is_begun = rw kept.0 (in_list l); blank = kept.1; none = kept.2 }
    in_list_by (ix ∷ rest) (Some b) spine is same = cc

    item_is_open_by : (t : Bool) → is_list_of byte (top_body r.tree) ≡ t
        → ItemIsOpen (begun (offset p) (ListItemBody columns)
        (if t then list_kept r else begun (offset p) (ListBody (list_flags true) byte number) (list_finished (offset p) r)))
    item_is_open_by true is = in_list_by r.tree.spine (top_body r.tree) refl refl is
    item_is_open_by false is = in_new_list is

    -- an item is open, in the list that continues or in a new one
    item_is_open : ItemIsOpen (item_opened (offset p) byte number columns r)
    unfolding list_continued empty_item_closed
    item_is_open =
        let same : empty_item_closed_by r r.begin_list_item ≡ r = ap (empty_item_closed_by r) may.none in
        rw same (item_is_open_by (is_list_of byte (top_body r.tree)) refl)

  -- an item with something after its markers
  pub ready_item : (byte number columns : ℕ) (marker : Option Item) (rest : Rest)
      → ContainerBegins d defined r p lines (item_start p (byte, number, columns) (marker, rest)) → is_blank_rest rest ≡ false
      → (let q : PassState = item_opened (offset p) byte number columns r in
      (q.blank ≡ false) × (now : ReadyAt d defined q.tree false (past_task marker (at_rest p rest)) lines) × IsPlain now.frames)
  ready_item byte number columns marker rest b some =
      let from : Continues = past_task marker (at_rest p rest) in
      let is : opening_of d (path_of d.options r.tree) p lines (item_start p (byte, number, columns) (marker, rest))
      ≡ OpensNode (item_head p byte number columns) from lines = grind (arith, some) in
      let now = item_is_open byte number columns from b.may (subst OpensHere is (begins_open (item_start p (byte, number, columns) (marker, rest)) b)) in
      let q : PassState = item_opened (offset p) byte number columns r in (
        now.blank,
        now.is_begun.ready,
        plain_open d.options q.tree now.is_begun.ready.frames now.is_begun.ready.are_open
            (ap is_list (top_opened (list_continued (offset p) byte number r).tree (node_of (offset p) 0 (ListItemBody columns)))),
      )

  -- a definition with something after its marker
  pub ready_definition : (columns : ℕ) (rest : Rest) → ContainerBegins d defined r p lines (definition_start p (columns, rest))
      → may_begin_definition r.tree ≡ true → is_blank_rest rest ≡ false
      → (let q : PassState = definition_begun (offset p) columns r in ReadyAt d defined q.tree q.blank (Inside (at_rest p rest)) lines)
  ready_definition columns rest b takes some =
      let now = definition_is_open d defined r p lines lines columns (Inside (at_rest p rest)) b.may takes
      (rw some at (begins_open (definition_start p (columns, rest)) b)) in
      rw now.blank now.is_begun.ready

  -- an item with nothing after its markers
  pub ready_empty_item : (m : ListMarker) (marker : Option Item) (rest : Rest) (e : ℕ)
      → ContainerBegins d defined r p lines (item_start p (m.byte, m.number, m.indent) (marker, rest)) → IsNoParagraph marker → EndsLine d rest lines e
      → Ready d defined (empty_item_read (item_opened (offset p) m.byte m.number m.indent r) marker e) lines
  unfolding Ready
  ready_empty_item m marker rest e b other over =
      let path : List Container = path_of d.options r.tree in
      let t : Bool = next_is_blank (ListItem m.indent ∷ path) lines in
      let from : Continues = only_task marker (at_rest p rest) (blanks_by t e) in
      let now = item_is_open m.byte m.number (columns_by t m.indent) from b.may (subst OpensHere (item_opens d path p lines m marker rest e t over refl)
      (begins_open (item_start p (m.byte, m.number, m.indent) (marker, rest)) b)) in
      empty_is d defined (ListItemBody m.indent) (list_continued (offset p) m.byte m.number r).tree (offset p) m.indent marker (at_rest p rest) lines e path
      other t _ now.blank refl now.is_begun

  -- a definition with nothing after its marker
  pub ready_empty_definition : (columns : ℕ) (rest : Rest) (e : ℕ) → ContainerBegins d defined r p lines (definition_start p (columns, rest))
      → may_begin_definition r.tree ≡ true → EndsLine d rest lines e
      → Ready d defined (empty_item_read (definition_begun (offset p) columns r) None e) lines
  unfolding Ready definition_begun
  ready_empty_definition columns rest e b takes over =
      let path : List Container = path_of d.options r.tree in
      let t : Bool = next_is_blank (Definition columns ∷ path) lines in
      let from : Continues = only_task None (at_rest p rest) (blanks_by t e) in
      let now = definition_is_open d defined r p lines lines (columns_by t columns) from b.may takes
      (subst OpensHere (definition_opens d path p lines columns rest e t over refl) (begins_open (definition_start p (columns, rest)) b)) in
      empty_is d defined (DefinitionListDefinition columns) (list_kept (with_tree r (definitions_opened r.tree r.tree.current))).tree (offset p) columns None
      (at_rest p rest) lines e path (λ x some. cc) t _ now.blank refl now.is_begun
