-- A container that begins at a place is opened: the properties that this keeps.
use Rattle.std.proofs.Common.{◌≡◌, inl, ℕ, ◌<◌, ◌≤◌, length, Bool, true, false, ◌&&◌, List, Option, Some, None, refl, sym, ap, subst, ◌∙◌, arith, IsUtf8}
use Rattle.std.proofs.Common.{IsCharBoundary, if◌then◌else◌}
use Rattle.first_pass_grammar.proofs.Common.{and_parts, cond_both, AreNamed, HasWholeTables, Item, BlockQuoteKind, DefinitionListDefinition, IsForest, in_table}
use Rattle.first_pass_grammar.proofs.Common.{footnote_head_at, Tables, Rest, Place, place_at, offset, line_end, IsPlaceOf, start_of-lines, prefix, at_rest}
use Rattle.first_pass_grammar.proofs.Common.{definition_marker_at, is_blank_rest, Document, document, around, has, definition_list, Start, item_start}
use Rattle.first_pass_grammar.proofs.Common.{task_after, after_task, tag_after, quote_begun, definition_head, definition_start, start_at, lines_from, Names}
use Rattle.first_pass_grammar.proofs.Common.{GrowsBy, item_on_top, Inside, CowIndex}
use Rattle.first_pass_containers.proofs.Common.{path_of, context_of, PassState, item_at, quote_start, item_whole, quote_whole, child_whole, MarkerBetween}
use Rattle.first_pass_containers.proofs.Common.{list_finished_none, list_continued_none, item_opened, footnote_begun_none, start_cases, Source, BlockQuote}
use Rattle.first_pass_containers.proofs.Common.{Opener, quote_prefix_shorter, item_shorter, definition_shorter, IsReadTo, item_head, other_list, item_keeps}
use Rattle.first_pass_containers.proofs.Common.{definition_keeps, markers_keep, mark_is_task, prefix_keeps, place_end, item_named, definition_named}
use Rattle.first_pass_containers.proofs.Common.{quote_named, child_named, Position, InLine, LeafAt, IsInLine, OrderedUpTo, ReadsTo, OrderedIn, GrowsTo}
use Rattle.first_pass_items.specs.declared.item.ItemBody.TheVariants.{BlockQuote as BlockQuoteBody, ListItem as ListItemBody}
use Rattle.first_pass_items.specs.declared.item.ItemBody.TheVariants.{FootnoteDefinition as FootnoteDefinitionBody}
use Rattle.first_pass_ready.proofs.BegunLemmas.{no_table}
use Rattle.first_pass_grammar.specs.declared.kind.AfterMarker.TheVariants.{OnLine, LineEnds}
use Rattle.first_pass_lists.specs.Closing.{top_body, may_begin_definition, with_tree, is_list, list_kept, loosened_top, begun, list_finished, list_continued}
use Rattle.first_pass_lists.specs.Closing.{definitions_opened, definition_begun, is_list_of, is_after_definition, empty_item_closed, list_closed, gap_tree}
use Rattle.first_pass_lists.specs.Closing.{gap_marked, footnote_left, footnote_begun}
use Rattle.first_pass_containers.specs.Positions.{may_define}
use Rattle.first_pass_containers.proofs.Leaves.FirstItems.{mark_by}
use Rattle.first_pass_containers.specs.Starts.{StartMatches, start_opened, after_at, after_read, IsAfterMarker, marker_of, container_opened, FinishesNothing}
use Rattle.first_pass_containers.proofs.Openings.Indented.{start_told, start_is, may_if, leaf_there}
use Rattle.first_pass_ready.specs.State.{ReadyAt}
use Rattle.first_pass_order.proofs.FootnotesKept.{item_notes, definition_notes, quote_notes, child_notes}
use Rattle.first_pass_order.proofs.DefinitionsWhole.{definition_whole}
use Rattle.first_pass_order.proofs.CountLemmas.{item_count, definition_count, quote_count, child_count, offset_before, mark_shorter, left_before}
use Rattle.first_pass_containers.proofs.OrderSteps.{noted, list_finished_blank, offset_later, upto_later, ordered_on, top_begun, ordered_item}
use Rattle.first_pass_containers.proofs.OrderSteps.{ordered_definition_in, ordered_quote, mark_stands, ordered_container, ordered_empty_item, quote_stands}
use Rattle.first_pass_containers.proofs.OrderSteps.{place_before_end, NewBlock, stands_between}
use Rattle.first_pass_ready.proofs.ClosedIn.{takes_same}
use Rattle.first_pass_containers.proofs.Openings.OpenerLemmas.{ready_item, ready_definition, ready_quote, ready_tagged, after_opened, ready_after}
use Rattle.first_pass_containers.proofs.Openings.OpenerLemmas.{ContainerBegins, empty_item_read, ready_empty_item, ready_empty_definition}
use Rattle.first_pass_containers.specs.declared.openers.Start.{Start as FoundStart}
use Rattle.first_pass_containers.specs.declared.openers.Opener.TheVariants.{Quote, Item as ItemOpener, Definition as DefinitionOpener}

-- no step
pub reads_none : (source : Source) (line : ℕ) (r : PassState) (p : Position) → ReadsTo source line r r p p
reads_none source line r p =
    record { ready = λ names defined h. h; order = λ h. h; node_bound = λ first h. h; named = λ names h. h; footnotes = refl; tables = λ names h. h }

-- the number of nodes that are added with an item with something after its markers, which end at two offsets
container_count : (text : List ℕ) (line mid e : ℕ) (q : Place) (first new : List (ℕ × Item)) (marker : Option Item)
    → GrowsBy line mid first new → line ≤ mid → MarkerBetween text mid (offset q) marker → ((x : Item) → marker ≡ Some x → mid < offset q)
    → GrowsTo text line first new (after_at q e (after_task marker))
container_count text line mid e q first new None grows order stands before = (let later : mid ≤ offset q = stands in omega arith)
container_count text line mid e q first new (Some x) grows order stands before =
    record { from = mid; grows = grows; order = order; stands = stands; before = before x refl }

-- a task list item marker leaves the state as it is
task_read : (marker : Option Item) (e : ℕ) (r : PassState) → after_read (after_task marker) e r ≡ r
task_read None e r = refl
task_read (Some x) e r = refl

-- a definition that was just opened
definition_opened : (start columns : ℕ) (r : PassState) → r.begin_list_item ≡ None → FinishesNothing (definition_begun start columns r)
unfolding definition_begun
definition_opened start columns r none =
    let q : PassState = with_tree r (definitions_opened r.tree r.tree.current) in
    let list = noted q (loosened_top q.tree q.tree.spine) q.blank refl in
    record { none = list.1 ∙ none; blank = list.0; plain = ap is_list (top_begun start (DefinitionListDefinition columns) (list_kept q)) }

ordered_empty_definition : (text : List ℕ) (start e columns : ℕ) (r : PassState) → start ≤ e → IsCharBoundary text e
    → OrderedUpTo text (definition_begun start columns r).tree start → IsReadTo text (empty_item_read (definition_begun start columns r) None e) e
unfolding definition_begun
ordered_empty_definition text start e columns r low boundary o =
    let list : PassState = list_kept (with_tree r (definitions_opened r.tree r.tree.current)) in
    ordered_empty_item text start e (DefinitionListDefinition columns) list None list.blank refl boundary o low

-- A container that begins at a place is opened, and reading continues after its marker in another state: less of the
-- line is left.
abbrev IsOpened : Source → ℕ → PassState → Place → Start → PassState → Type 0
IsOpened source line r p s q =
    IsAfterMarker s.after q × (length s.rest.left < length p.rest.left) × IsInLine source.text.now p.line (line_end p) (at_rest p s.rest)
    × ReadsTo source line r q (InLine p) (after_at (at_rest p s.rest) (line_end p) s.after)

module _ (source : Source) (r : PassState) (p : Place) (utf8 : IsUtf8 source.text.now) (at : IsPlaceOf source.text.now p) (forest : IsForest r.tree)
    (none : r.begin_list_item ≡ None) (line : ℕ) (below : line ≤ p.line)
    (bare : in_table r.tree.nodes r.tree.spine ≡ false → footnote_head_at (context_of source.options r.tree) p ≡ None) where
  abbrev text : List ℕ
  text = source.text.now

  abbrev doc : Names → Document
  doc names = document source.text.now source.options names

  -- the container that this start begins is opened
  abbrev Opened : Start → Type 0
  Opened s = IsOpened source line r p s (start_opened p.line (start_told s) (line_end p) r)

  -- if the state begins a derivation, no table is open, and so no footnote definition begins
  no_head : (names : Names) (defined : Tables) → ReadyAt (doc names) defined r.tree r.blank (Inside p) (lines_from text (line_end p))
      → footnote_head_at (around (doc names) (path_of source.options r.tree)) p ≡ None
  no_head names defined ready = bare (no_table source.options r.tree.nodes r.tree.spine ready.frames ready.are_open)

  ends : IsCharBoundary text (line_end p)
  ends = place_end text p utf8 at

  abbrev may : Bool
  may = may_define source.options r.tree

  -- the container that begins if one may, in terms of the grammar
  begins_as : (names : Names) (defined : Tables) (s : Start) → start_at source.options may p ≡ Some s
      → ReadyAt (doc names) defined r.tree r.blank (Inside p) (lines_from text (line_end p))
      → ContainerBegins (doc names) defined r p (lines_from text (line_end p)) s
  begins_as names defined s is ready = record {
    may = record { forest = forest; none = none; ready = ready };
    bare = no_head names defined ready;
    begins = ap (λ (t : Bool). start_at source.options (has source.options definition_list && t) p) (takes_same r.tree) ∙ is;
  }

  -- a list item
  module _ (byte number columns : ℕ) (following : Rest) (is : item_at p.rest ≡ Some ((byte, number, columns), following))
      (begins : start_at source.options may p ≡ Some (item_start p (byte, number, columns) (task_after source.options p.line following))) where
    abbrev marker : Option Item
    marker = (task_after source.options p.line following).0

    abbrev rest : Rest
    rest = (task_after source.options p.line following).1

    abbrev opened_item : PassState
    opened_item = item_opened (offset p) byte number columns r

    -- the line ends after the markers, or not
    item_by : (t : Bool) → is_blank_rest rest ≡ t
        → Opened (record { head = item_head p byte number columns; after = if t then LineEnds marker else after_task marker; rest = rest })
    item_by =
        let e : ℕ = line_end p in
        let under = below in
        let j = markers_keep text source.options p.line p.rest ((byte, number, columns), following) rest utf8 is refl at in
        let k = item_keeps text p.line p.rest ((byte, number, columns), following) utf8 is at in
        let shorter = item_shorter p.rest ((byte, number, columns), following) is in
        let mark = offset_later text p.line p.rest following at k.0 (omega arith) in
        let first_marker = offset_before text p.line p.rest following at k.0 shorter in
        let there = place_before_end (at_rest p rest) in
        let some = left_before p (omega arith) in
        let two = item_count (offset p) byte number columns r in
        let top = top_begun (offset p) (ListItemBody columns) (list_continued (offset p) byte number r) in
        let is_task = mark_is_task source.options p.line following in
        let stands = λ (from : ℕ) (low : from ≤ offset (place_at p.line following)). mark_stands text source.options p.line following from utf8 k.0 low in
        elim [
          | true ↦ λ over. (
            tt,
            j.2,
            (j.0, refl, j.1),
            record {
              ready = λ names defined ready.
                  ready_empty_item (doc names) defined r p (lines_from text e) (marker_of (byte, number, columns)) marker rest e
                  (begins_as names defined (item_start p (byte, number, columns) (marker, rest)) begins ready)
                  (λ x task. mark_by x.body (is_task x task)) (record { blank = over; next = start_of-lines text e ends.0 });
              order = λ ordered.
                  inl (ordered_empty_item text (offset p) e (ListItemBody columns) (list_continued (offset p) byte number r) marker opened_item.blank refl
                  ends (ordered_item text r p.line (offset p) byte number columns (omega arith) at.within at.boundary none ordered.1)
                  (stands_between text (offset p) (offset p) (offset (at_rest p rest)) e marker (omega arith) (omega (arith, there, j.1))
                  (stands (offset p) mark)));
              node_bound = λ first grows. let one = child_count opened_item.tree marker in omega arith;
              named = λ names h. child_named names opened_item.tree marker is_task (item_named names (offset p) byte number columns r h);
              footnotes = child_notes opened_item.tree marker is_task ∙ item_notes (offset p) byte number columns r;
              tables = λ names h. child_whole names opened_item.tree marker is_task (item_whole names (offset p) byte number columns r forest h);
            },
          )
          | false ↦ λ some. subst (IsOpened source line r p (record { head = item_head p byte number columns; after = after_task marker; rest = rest }))
              (sym (task_read marker e opened_item)) (
                after_opened marker opened_item is_task (list_continued_none (offset p) byte number r) (ap item_on_top top),
                j.2,
                (j.0, refl, j.1),
                record {
                  ready = λ names defined ready.
                      ready_after (doc names) defined opened_item (at_rest p rest) e marker j.1
                      (ready_item (doc names) defined r p (lines_from text e) byte number columns marker rest
                      (begins_as names defined (item_start p (byte, number, columns) (marker, rest)) begins ready) some);
                  order = λ ordered.
                      ordered_container source.options text opened_item (offset p) e (at_rest p rest) marker (ap is_list top) j.0.within ordered.0
                      (ordered_item text r p.line (offset p) byte number columns (omega arith) at.within at.boundary none ordered.1) (stands (offset p) mark);
                  node_bound = λ first grows.
                      container_count text line (offset (place_at p.line following)) e (at_rest p rest) first opened_item.tree.nodes marker (omega arith)
                      (omega arith) (stands (offset (place_at p.line following)) (omega arith)) (λ x task.
                      offset_before text p.line following rest k.0 j.0 (mark_shorter source.options p.line following rest marker x refl refl task));
                  named = λ names h. item_named names (offset p) byte number columns r h;
                  footnotes = item_notes (offset p) byte number columns r;
                  tables = λ names h. item_whole names (offset p) byte number columns r forest h;
                },
              )
        ]

  -- a block quote
  module _ (inside : Rest) (is : prefix (BlockQuote None) p.rest ≡ Some inside)
      (begins : start_at source.options may p ≡ Some (quote_begun p (tag_after source.options inside) inside)) where
    abbrev opened_quote : Option BlockQuoteKind → PassState
    opened_quote kind = begun (quote_start p) (BlockQuoteBody kind) (list_finished p.line r)

    new_quote : offset p ≤ quote_start p → IsCharBoundary text (quote_start p) → OrderedIn text r.tree p
        → NewBlock text r p.line (offset p) p.line (quote_start p)
    new_quote later boundary ordered = grind (arith, ends)

    -- a tag is in the line, or not
    quote_by : (kind : Option BlockQuoteKind) → tag_after source.options inside ≡ kind → Opened (quote_begun p kind inside)
    quote_by =
        let e : ℕ = line_end p in
        let under = below in
        let j = prefix_keeps text p.line (BlockQuote None) p.rest inside utf8 is at in
        let s = quote_stands text p.line _ p.rest inside utf8 is at j.0 refl in
        let shorter = quote_prefix_shorter p.rest inside is in
        let later = offset_before text p.line p.rest inside at j.0 shorter in
        let there = place_before_end (at_rest p inside) in
        let begins_tagged = λ (kind : Option BlockQuoteKind) (tag : tag_after source.options inside ≡ kind).
        begins ∙ ap (λ (k : Option BlockQuoteKind). Some (quote_begun p k inside)) tag in
        elim [
          | None ↦ λ tag. (
            list_finished_none p.line r,
            shorter,
            (j.0, refl, j.1),
            record {
              ready = λ names defined ready.
                  rw j.1 (ready_quote (doc names) defined r p (lines_from text e) inside
                  (begins_as names defined (quote_begun p None inside) (begins_tagged None tag) ready));
              order = λ ordered. (
                ordered.0,
                ordered_on text (opened_quote None).tree p.line (quote_start p) (offset (at_rest p inside))
                    (ap is_list (top_begun (quote_start p) (BlockQuoteBody None) (list_finished p.line r))) s.1 j.0.within
                    (ordered_quote text r p.line (offset p) (quote_start p) None (new_quote s.0 s.2 ordered)),
              );
              node_bound = λ first grows. let one = quote_count p.line (quote_start p) (BlockQuoteBody None) r in omega arith;
              named = λ names h. quote_named names p.line (quote_start p) (BlockQuoteBody None) r tt h;
              footnotes = quote_notes p.line (quote_start p) (BlockQuoteBody None) r refl;
              tables = λ names h. quote_whole names p.line (quote_start p) (BlockQuoteBody None) r (λ names depth start end. refl) refl forest h;
            },
          )
          | Some kind ↦ λ tag. (
            list_finished_none p.line r,
            shorter,
            (j.0, refl, j.1),
            record {
              ready = λ names defined ready.
                  ready_tagged (doc names) defined r p (lines_from text e) inside kind
                  (begins_as names defined (quote_begun p (Some kind) inside) (begins_tagged (Some kind) tag) ready);
              order = λ ordered.
                  upto_later text (opened_quote (Some kind)).tree (quote_start p) e (omega (arith, s.1, there, j.1)) ends.0
                  (ordered_quote text r p.line (offset p) (quote_start p) (Some kind) (new_quote s.0 s.2 ordered));
              node_bound = λ first grows. let one = quote_count p.line (quote_start p) (BlockQuoteBody (Some kind)) r in omega (arith, there, j.1);
              named = λ names h. quote_named names p.line (quote_start p) (BlockQuoteBody (Some kind)) r tt h;
              footnotes = quote_notes p.line (quote_start p) (BlockQuoteBody (Some kind)) r refl;
              tables = λ names h. quote_whole names p.line (quote_start p) (BlockQuoteBody (Some kind)) r (λ names depth start end. refl) refl forest h;
            },
          )
        ]

  -- a definition
  module _ (columns : ℕ) (rest : Rest) (is : definition_marker_at p.rest ≡ Some (columns, rest)) (takes : may_begin_definition r.tree ≡ true)
      (begins : start_at source.options may p ≡ Some (definition_start p (columns, rest))) where
    abbrev opened_definition : PassState
    opened_definition = definition_begun (offset p) columns r

    -- the line ends after the marker, or not
    definition_by : (t : Bool) → is_blank_rest rest ≡ t
        → Opened (record { head = definition_head p columns; after = if t then LineEnds None else OnLine; rest = rest })
    definition_by =
        let e : ℕ = line_end p in
        let under = below in
        let j = definition_keeps text p.line p.rest (columns, rest) utf8 is at in
        let shorter = definition_shorter p.rest (columns, rest) is in
        let later = offset_before text p.line p.rest rest at j.0 shorter in
        let there = place_before_end (at_rest p rest) in
        let two = definition_count (offset p) columns r in
        let new = definition_opened (offset p) columns r none in
        let named = λ (names : Names) (h : AreNamed names r.tree.nodes). definition_named names (offset p) columns r h in
        let tables = λ (names : Names) (h : HasWholeTables names r.tree). definition_whole names (offset p) columns r forest h in
        let ordered_in = ordered_definition_in text r p.line (offset p) columns forest takes (omega arith) at.within at.boundary in
        elim [
          | true ↦ λ over. (
            tt,
            shorter,
            (j.0, refl, j.1),
            record {
              ready = λ names defined ready.
                  ready_empty_definition (doc names) defined r p (lines_from text e) columns rest e
                  (begins_as names defined (definition_start p (columns, rest)) begins ready) takes
                  (record { blank = over; next = start_of-lines text e ends.0 });
              order = λ ordered. inl (ordered_empty_definition text (offset p) e columns r (place_before_end p) ends (ordered_in ordered.1));
              node_bound = λ first grows. omega (arith, there, j.1);
              named = named;
              footnotes = definition_notes (offset p) columns r;
              tables = tables;
            },
          )
          | false ↦ λ some. (
            new.none,
            shorter,
            (j.0, refl, j.1),
            record {
              ready = λ names defined ready.
                  rw j.1 (ready_definition (doc names) defined r p (lines_from text e) columns rest
                  (begins_as names defined (definition_start p (columns, rest)) begins ready) takes some);
              order = λ ordered.
                  ordered_container source.options text opened_definition (offset p) e (at_rest p rest) None new.plain j.0.within ordered.0
                  (ordered_in ordered.1) (let low : offset p ≤ offset (at_rest p rest) = omega arith in low);
              node_bound = λ first grows. omega arith;
              named = named;
              footnotes = definition_notes (offset p) columns r;
              tables = tables;
            },
          )
        ]

  -- the properties of a start that is found there
  abbrev OpensIt : Start → Type 0
  OpensIt s = start_at source.options may p ≡ Some s → Opened s

  start_opens : (s : Start) → OpensIt s
  start_opens s begins_it =
      start_cases source.options may p OpensIt
      (λ item is begins.
      item_by item.0.0 item.0.1 item.0.2 item.1 is begins _ refl)
      (λ marker no_item is begins.
      definition_by marker.0 marker.1 is
      (and_parts (has source.options definition_list) (may_begin_definition r.tree) (may_if source.options may p marker no_item begins)).1 begins
      (is_blank_rest marker.1) refl)
      (λ inside no_item is begins. quote_by inside is begins (tag_after source.options inside) refl) s begins_it begins_it

  -- no container begins there
  pub no_start : start_at source.options may p ≡ None → ReadsTo source line r r (InLine p) (LeafAt p)
  no_start is = leaf_there source r p line (λ names defined ready. inl (no_head names defined ready, is, ready))

  -- the same in terms of the calls that open it
  pub opened_start : (s : Start) (new : Place) (t : FoundStart) (q : PassState) → start_at source.options may p ≡ Some s
      → StartMatches s t
      → new ≡ at_rest p s.rest → q ≡ start_opened new.line t (line_end new) r
      → IsAfterMarker t.after q × (length new.rest.left < length p.rest.left) × IsInLine text p.line (line_end p) new
      × ReadsTo source line r q (InLine p) (after_at new (line_end p) t.after)
  opened_start s new t q is told new_is q_is =
      let opens = start_opens s is in
      rw (q_is, new_is, start_is s t told) (subst (λ e. IsOpened source line r p s (start_opened p.line (start_told s) e r)) (sym opens.2.2) opens)

-- ---- in a container that was just opened, a block that begins ends no list, and is no title

pub finishes_none : (e : ℕ) (r : PassState) → FinishesNothing r → list_finished e r ≡ r
unfolding list_finished empty_item_closed
finishes_none e r h = rw (h.none, h.plain, h.blank) refl

pub not_after_definition : (r : PassState) → FinishesNothing r → is_after_definition r.tree ≡ false
not_after_definition r h = rw (other_list (top_body r.tree) h.plain) refl

continued_blank : (start byte number : ℕ) (r : PassState) → (list_continued start byte number r).blank ≡ false
unfolding list_continued
continued_blank start byte number r =
    let q : PassState = empty_item_closed r in
    cond_both (is_list_of byte (top_body q.tree)) (list_kept q) _ (λ (z : PassState). z.blank ≡ false)
    (λ _. (noted q (loosened_top q.tree q.tree.spine) q.blank refl).0) (λ _. list_finished_blank start q)

pub footnote_just_opened : (start : ℕ) (label : CowIndex) (r : PassState) → FinishesNothing (footnote_begun start label r)
unfolding footnote_begun
footnote_just_opened start label r =
    let left : PassState = footnote_left start (list_closed start (empty_item_closed r)) in
    record {
      none = footnote_begun_none start label r;
      blank = (noted left (gap_tree left.tree left.tree.spine) left.blank refl).0;
      plain = ap is_list (top_begun start (FootnoteDefinitionBody label) (gap_marked left));
    }

just_opened : (line start : ℕ) (o : Opener) (r : PassState) → r.begin_list_item ≡ None → FinishesNothing (container_opened line start o r)
just_opened line start (Quote kind) r none = grind (arith, list_finished_none, list_finished_blank, top_begun)
just_opened line start (ItemOpener m) r none = grind (arith, list_continued_none, continued_blank, top_begun)
just_opened line start (DefinitionOpener columns) r none = definition_opened start columns r none

-- more of the line follows the marker of the container
pub start_just_opened : (line e : ℕ) (t : FoundStart) (r : PassState) → t.after ≡ OnLine → r.begin_list_item ≡ None → FinishesNothing (start_opened line t e r)
start_just_opened line e t r is none = rw is (just_opened line t.start t.opener r none)
