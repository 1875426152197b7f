-- A pass read the link reference definitions at a place and the text that follows them, or the text that begins there: after
-- none, at a plain byte, or in a container that was just opened. Right after a definition it may be the next title.
use Rattle.std.proofs.Common.{◌≡◌, inl, inr, ℕ, ◌+◌, ◌≤◌, ◌<◌, Bool, true, false, List, [], ◌∷◌, length, Option, Some, None, IsCharBoundary, refl, sym, ap}
use Rattle.std.proofs.Common.{subst, ◌∙◌, arith, if◌then◌else◌}
use Rattle.first_pass_grammar.proofs.Common.{option_map_or, Item, ItemBody, Forest, IsForest, added, at_depth, body_at, in_table, line_len, begins, indent}
use Rattle.first_pass_grammar.proofs.Common.{Place, offset, line_end, IsPlaceOf, place_at, columns_line_end, is_paragraph_body, begins_paragraph, Block}
use Rattle.first_pass_grammar.proofs.Common.{flowing_block, unindented, IsKind, Document, document, Tables, with_definitions, LinkEntry, FlowsOn, IsRun}
use Rattle.first_pass_grammar.proofs.Common.{lines_from, Line, OpensLeaf, Names, Extends, AreNamed, index_of, GrowsBy, HasWholeTables, ShowsNothing}
use Rattle.first_pass_grammar.proofs.Common.{left_bracket, is_plain, begins_plain, plain_begins, Options}
use Rattle.first_pass_blocks.proofs.Common.{text_named, tables_of, tables_in, names_of, NamesMore, extends_equal, extends_none, TablesAreWritten, with_tree}
use Rattle.first_pass_blocks.proofs.Common.{is_list, top_body, list_finished, PassState, line_end_at, AddsBetween, path_of, allocs_of, context_in, state_of}
use Rattle.first_pass_blocks.proofs.Common.{source_of, source_options, source_text, tree_of, closed_in, Ready, IsReadTo, line_or, OrderedIn, ReadsLeaf, IsLater}
use Rattle.first_pass_blocks.proofs.Common.{ReadsRun, PutsDefinitions, AddsText, no_table, count, list_finished_count, block_count, leaf_left, left_before}
use Rattle.first_pass_blocks.proofs.Common.{path_finished, list_finished_blank, line_or-below, ordered_finished, ordered_leaf, place_before_end}
use Rattle.first_pass_blocks.proofs.Common.{unindented_later, IsStateAtPlace, ready_added, list_finished_none, block_added, list_finished_named}
use Rattle.first_pass_blocks.proofs.Common.{list_finished_whole, kept_of, block_whole, all_keep, Source, BlockPass, Entries, footdefs_of, upto_later}
use Rattle.first_pass_blocks.proofs.Common.{title_begun_named, task_has_none, added_text_whole, task_shows, footnotes_in, ReadyLeaf, OrderedUpTo, notes}
use Rattle.first_pass_blocks.proofs.Common.{NamesNone, block_notes, text_notes, task_names_none, list_finished_notes, title_begun_notes, ready_ended, text_away}
use Rattle.first_pass_blocks.proofs.Common.{opens_flow, text_opens, ready_kept, away_left, title_begun_count, definitions_left_count, ReadsDefinitions}
use Rattle.first_pass_blocks.proofs.Common.{text_silent_first, text_flat, IsTaskMark, mark_has, EndsListAt}
use Rattle.first_pass_blocks.specs.Titles.{ReadsTextOrTitle}
use Rattle.first_pass_items.specs.declared.item.ItemBody.TheVariants.{Paragraph as ParagraphBody}
use Rattle.first_pass_grammar.specs.Kinds.{Paragraph}
use Rattle.first_pass_lists.specs.Closing.{current_body, is_after_definition, title_begun, definitions_left, possible_title}
use Rattle.first_pass_blocks.specs.declared.definition.RunEnd.TheVariants.{NextLine, Paragraph as TextAfter}
use Rattle.first_pass_containers.specs.Titles.{current_end, is_paragraph_last, title_read}
use Rattle.first_pass_ready.proofs.AddedLemmas.{body_after}
use Rattle.first_pass_order.proofs.DefinitionOrder.{ReadAfterDefinition, read_definitions_left, read_title_begun}
use Rattle.first_pass_ready.proofs.LeftBlocks.{left_is}
use Rattle.first_pass_blocks.proofs.FootnoteLabels.{labels_stay}
use Rattle.first_pass_order.proofs.DefinitionsWhole.{title_begun_whole}
use Rattle.first_pass_blocks.proofs.LinkDefinitions.{written_stay, run_is_empty, puts_none}
use Rattle.first_pass_blocks.specs.declared.definition.RunEnd.{RunEnd}
use Rattle.first_pass_open.proofs.PlainLemmas.{plain_all}
use Rattle.first_pass_kinds.proofs.PlainKinds.{plain_kind}

-- if a leaf is ready to be read, no table is open
leaf_plain : (d : Document) (defined : Tables) (r : PassState) (p : Place) (lines : List Place)
    → ReadyLeaf d defined r p lines → in_table r.tree.nodes r.tree.spine ≡ false
leaf_plain d defined r p lines (inl (bare, no_start, ready)) = no_table d.options r.tree.nodes r.tree.spine ready.frames ready.are_open
leaf_plain d defined r p lines (inr lazy) = no_table d.options r.tree.nodes r.tree.spine lazy.ready.frames lazy.ready.are_open

-- a later place is not before a place, and neither is its line, which begins at a character boundary too
later_than : (text : List ℕ) (p q : Place) → offset p ≤ offset (unindented p) → IsLater text (unindented p) q
    → (p.line ≤ q.line) × (offset p ≤ offset q) × (IsCharBoundary text p.line → IsCharBoundary text q.line)
later_than text p q mid (inl (same, low)) = (let line : q.line ≡ p.line = same in omega arith, omega arith, λ begins. rw same begins)
later_than text p q mid (inr (low, there)) = (let ends = place_before_end (unindented p) in (omega arith, omega arith, λ begins. there))

or_later : (t : Bool) (l a m b : ℕ) → l ≤ m → a ≤ b → (if t then l else a) ≤ (if t then m else b)
or_later true l a m b low high = low
or_later false l a m b low high = high

-- Order up to a place, or up to the start of its line if a list is innermost, is such an order at a later place.
later_ordered : (text : List ℕ) (f : Forest Item) (p q : Place) → offset p ≤ offset (unindented p) → IsLater text (unindented p) q → IsPlaceOf text q
    → OrderedIn text f p → OrderedIn text f q
later_ordered text f p q mid later i (begins, o) =
    let on = later_than text p q mid later in
    let below = or_later (is_list (top_body f)) p.line (offset p) q.line (offset q) on.0 on.1 in
    let here : line_or f q.line (offset q) ≤ offset q = line_or-below f q.line (offset q) (omega arith) in
    let within = i.within in
    (on.2 begins, upto_later text f (line_or f p.line (offset p)) (line_or f q.line (offset q)) below (omega arith) o)

-- A pass read the link reference definitions at a place, or none, and put them into its table. This follows them.
pub record RunRead (old mid : BlockPass) (p : Place) (following : RunEnd) : Type 0 where
  pub kept : PutsDefinitions old mid
  pub run : ReadsRun (source_text old) (context_in old) (in_table (tree_of old).nodes (tree_of old).spine) (unindented p) (tables_of (allocs_of old))
      (tables_of (allocs_of mid)) following

pub run_read : (old mid : BlockPass) (p : Place) (line at : ℕ) (found following : RunEnd) → IsStateAtPlace (source_text old) (state_of old) p
    → line ≡ p.line → at ≡ offset (unindented p) → ReadsDefinitions old mid line at found → found ≡ following → RunRead old mid p following
run_read old mid p line at found following here line_is at_is e is = record {
  kept = e.kept;
  run = rw is at (e.run (unindented p) (sym line_is) (sym at_is) (all_keep (source_text old) p.line p.rest here.utf8 here.place));
}

-- link reference definitions without a paragraph after them
pub run_line : (old mid new : BlockPass) (p : Place) (line next : ℕ) → IsStateAtPlace (source_text old) (state_of old) p
    → IsKind (source_options old) p.rest Paragraph → RunRead old mid p (NextLine line next) → source_of new ≡ source_of mid → allocs_of new ≡ allocs_of mid
    → state_of new ≡ list_finished line (state_of old) → ReadsLeaf old new p next
run_line old mid new p line next is_at kind definitions source allocs state =
    let w = definitions.run in
    let text = source_text old in
    let r : PassState = state_of old in
    let q : Place = w.place in
    let there = columns_line_end (indent p.rest) p in
    let ends = w.ends in
    let far = w.says.1 in
    let further = unindented_later text p.line p.rest is_at.utf8 is_at.place in
    let named = ap names_of allocs ∙ definitions.kept.names in
    let following : state_of new ≡ list_finished q.line r = state ∙ ap (λ e. list_finished e r) w.says.0 in
    let here = place_before_end q in
    let last = w.says.2 in
    let high = last.0 in
    let same = ap count following in
    let node_bound = list_finished_count q.line r in
    let before = place_before_end p in
    record {
      kept = record {
        source = source ∙ definitions.kept.source;
        names = extends_equal _ _ named;
        named = λ h. rw (following, named) (list_finished_named (names_of (allocs_of old)) q.line r h);
        written = λ h. subst (λ z. TablesAreWritten text z) (sym allocs) (definitions.kept.written h);
        labels = labels_stay (allocs_of old) (allocs_of new) (tree_of old).nodes (tree_of new).nodes (extends_equal _ _ named)
            (ap notes following ∙ list_finished_notes q.line r) (ap footdefs_of allocs ∙ definitions.kept.footnotes);
        tables = λ h k. rw (following, named) (list_finished_whole (names_of (allocs_of old)) q.line r is_at.forest k);
      };
      later = omega arith;
      boundary = last;
      ready = λ more extends ready.
          let d = document text (source_options old) more in
          let plain = leaf_plain d (tables_of (allocs_of old)) r p (lines_from text (line_end p)) ready in
          let run = rw there at (w.run plain) in
          rw (ap tables_of allocs ∙ w.defined plain, following)
          (ready_ended d (tables_of (allocs_of old)) r p q next w.definitions is_at.forest kind run is_at.none ready);
      order = λ o. let on = later_ordered text r.tree p q further w.later w.stands o in
          inl (rw following (ordered_finished text r q.line (offset q) q.line next (record {
            low = omega arith;
            later = omega arith;
            ends = inl (refl, on.0);
            boundary = last;
            none = is_at.none;
            order = on.1;
          })));
      node_bound = omega arith;
    }

-- what a pass reads for the text at a place, which is found after the link reference definitions at another place
record ReadsText (old new : BlockPass) (p q : Place) (next : ℕ) : Type 0 where
  later : line_end_at (source_text old) (offset q) ≤ next
  boundary : IsCharBoundary (source_text old) next
  ready : (more : Names) → Extends more (names_of (allocs_of new)) → (xs : List LinkEntry) (defined : Tables)
      → IsRun (context_in old) (unindented p) (lines_from (source_text old) (line_end p)) xs (FlowsOn q (lines_from (source_text old) (line_end q)))
      → ReadyLeaf (document (source_text old) (source_options old) more) defined (state_of old) p (lines_from (source_text old) (line_end p))
      → Ready (document (source_text old) (source_options old) more) (with_definitions defined xs) (state_of new) (lines_from (source_text old) next)
  order : OrderedUpTo (source_text old) (tree_of old) (line_or (tree_of old) q.line (offset q)) → IsReadTo (source_text old) (state_of new) next
  node_bound : (from : ℕ) → from ≤ offset q → from < next → GrowsBy from next (tree_of old).nodes (tree_of new).nodes
  kept : Extends (names_of (allocs_of new)) (names_of (allocs_of old))
      → (AreNamed (names_of (allocs_of old)) (tree_of old).nodes → AreNamed (names_of (allocs_of new)) (tree_of new).nodes)
      × (AreNamed (names_of (allocs_of old)) (tree_of old).nodes → HasWholeTables (names_of (allocs_of old)) (tree_of old)
      → HasWholeTables (names_of (allocs_of new)) (tree_of new))
  footnotes : notes (state_of new) ≡ notes (state_of old)

-- the paragraph that follows them, or that begins there
run_text : (old mid new : BlockPass) (p : Place) (at next : ℕ) → IsStateAtPlace (source_text old) (state_of old) p
    → IsKind (source_options old) p.rest Paragraph → (definitions : RunRead old mid p (TextAfter at)) → source_of new ≡ source_of mid
    → NamesMore (allocs_of mid) (allocs_of new) → ReadsText old new p definitions.run.place next → ReadsLeaf old new p next
run_text old mid new p at next is_at kind definitions source adds t =
    let w = definitions.run in
    let text = source_text old in
    let q : Place = w.place in
    let there = columns_line_end (indent p.rest) p in
    let ends = w.ends in
    let later = t.later in
    let further = unindented_later text p.line p.rest is_at.utf8 is_at.place in
    let on = (later_than text p q further w.later).1 in
    let more_named = subst (Extends (names_of (allocs_of new))) definitions.kept.names adds.names in
    let here : line_end_at text (offset q) ≡ line_end q = ap (λ bs. offset q + line_len bs) (sym w.stands.left) in
    let some = left_before p (leaf_left (source_options old) p.rest Paragraph kind (λ b. cc)) in
    record {
      kept = record {
        source = source ∙ definitions.kept.source;
        names = more_named;
        named = (t.kept more_named).0;
        written = λ h. written_stay text (allocs_of mid) (allocs_of new) adds.entries (definitions.kept.written h);
        labels = labels_stay (allocs_of old) (allocs_of new) (tree_of old).nodes (tree_of new).nodes more_named t.footnotes
            (ap (λ (e : Entries). e.footnotes) adds.entries ∙ definitions.kept.footnotes);
        tables = (t.kept more_named).1;
      };
      later = omega arith;
      boundary = t.boundary;
      ready = λ more extends ready.
          let plain = leaf_plain (document text (source_options old) more) (tables_of (allocs_of old)) (state_of old) p (lines_from text (line_end p)) ready in
          let run = rw there at (w.run plain) in
          rw (ap tables_in adds.entries ∙ w.defined plain) (t.ready more extends w.definitions (tables_of (allocs_of old)) run ready);
      order = λ o. inl (t.order (later_ordered text (tree_of old) p q further w.later w.stands o).1);
      node_bound = t.node_bound (offset p) (omega arith) (omega arith);
    }

-- The nodes of an added text name what they index, and whole tables stay whole; also after a task list item marker.
pub text_kept : (d : Document) (names : Names) (old new : Forest Item) (q : Place) (marker : Option Item) (next : ℕ)
    → AddsText d (offset q) marker old new next → IsPlaceOf d.text q → IsTaskMark marker → Extends d.names names
    → (AreNamed names old.nodes → AreNamed d.names new.nodes)
    × (AreNamed names old.nodes → HasWholeTables names old → HasWholeTables d.names new)
text_kept d names old new q marker next block stands mark more =
    let is = block.is_text d.names (extends_none d.names) q stands refl in
    let free = mark_has (λ b. index_of b ≡ None) task_has_none marker mark in (
      λ h. block_added d.names names old new block.items more block.tree_is (text_named d _ q marker _ _ free is) h,
      λ h k. block_whole d.names names old new block.items more block.tree_is
          (added_text_whole d _ q marker _ _ stands (mark_has ShowsNothing task_shows marker mark) is)
          (text_silent_first d _ q marker _ _ mark is) h (kept_of names old k),
    )

-- an added text has no footnote definition
pub text_unnoted : (d : Document) (old new : Forest Item) (q : Place) (marker : Option Item) (next : ℕ)
    → AddsText d (offset q) marker old new next → IsPlaceOf d.text q → IsTaskMark marker → footnotes_in new.nodes ≡ footnotes_in old.nodes
text_unnoted d old new q marker next block stands mark =
    block_notes old new block.items block.tree_is
    (text_notes d _ q marker _ _ (mark_has NamesNone task_names_none marker mark) (block.is_text d.names (extends_none d.names) q stands refl))

-- whether a paragraph was read
first_begins : (k : ℕ) (items : List (ℕ × Item)) → option_map_or is_paragraph_body (body_at (at_depth k items) 0) false ≡ begins_paragraph items
first_begins k [] = refl
first_begins k (x ∷ items) = refl

last_begins : (f : Forest Item) (items : List (ℕ × Item)) → is_paragraph_last (added f items) ≡ begins_paragraph items
last_begins f items =
    ap (λ o. option_map_or is_paragraph_body o false) (body_after f.nodes (at_depth (length f.spine + 1) items)) ∙ first_begins (length f.spine + 1) items

is_paragraph_by : (o : Option ItemBody) → option_map_or is_paragraph_body o false ≡ true → o ≡ Some ParagraphBody
is_paragraph_by None h = cc
is_paragraph_by (Some ParagraphBody) h = refl
is_paragraph_by (Some b) h = cc

module _ (old new : BlockPass) (p q : Place) (next : ℕ) (is_at : IsStateAtPlace (source_text old) (state_of old) p)
    (kind : IsKind (source_options old) p.rest Paragraph) (stands : IsPlaceOf (source_text old) q) where
  abbrev text : List ℕ
  text = source_text old

  abbrev options : Options
  options = source_options old

  abbrev r : PassState
  r = state_of old

  abbrev before : Names
  before = names_of (allocs_of old)

  abbrev own : Names
  own = names_of (allocs_of new)

  -- a text that is added after a new block ended any list, at an offset
  added_text : (ends : ℕ) → state_of new ≡ with_tree (list_finished ends r) (tree_of new)
      → (block : AddsText (document text options own) (offset q) None (list_finished ends r).tree (tree_of new) next)
      → ((xs : List LinkEntry) → EndsListAt ends (top_body r.tree) (closed_in r.tree)
      (OpensLeaf (Block (flowing_block q xs block.items)) Line (lines_from text next)))
      → (OrderedUpTo text r.tree (line_or r.tree q.line (offset q)) → IsReadTo text (state_of new) next)
      → ((from : ℕ) → from ≤ offset q → from < next → GrowsBy from next r.tree.nodes (tree_of new).nodes)
      → ReadsText old new p q next
  added_text ends is block away order node_bound = record {
    later = block.later;
    boundary = block.boundary;
    ready = λ more extends xs defined run ready.
        let d = document text options more in
        let path = path_of options r.tree in
        let left = lines_from text next in
        let is_text = rw (path_finished options ends r is_at.none) at (block.is_text more extends) in
        let opens = text_opens d path p (lines_from text (line_end p)) xs (FlowsOn q (lines_from text (line_end q)))
        (OpensLeaf (Block (flowing_block q xs block.items)) Line left) run (opens_flow d path q next xs block.items (is_text q stands refl)) in
        ready_added d defined r (state_of new) p left ends (flowing_block q xs block.items) refl
        (record { forest = is_at.forest; none = is_at.none; kind = Paragraph; is_kind = kind; opens = opens; away = λ begins. away xs })
        (record {
          tree_is = block.tree_is;
          none = rw is (list_finished_none ends r);
          blank = rw is (list_finished_blank ends r);
        }) ready;
    order = order;
    node_bound = node_bound;
    kept = λ more. let added = text_kept (document text options own) before (list_finished ends r).tree (tree_of new) q None next block stands tt more in (
      λ h. added.0 (list_finished_named before ends r h),
      λ h k. added.1 (list_finished_named before ends r h) (list_finished_whole before ends r is_at.forest k),
    );
    footnotes = text_unnoted (document text options own) (list_finished ends r).tree (tree_of new) q None next block stands tt
        ∙ list_finished_notes ends r;
  }

  -- a text that is not right after a definition
  plain_text : is_after_definition r.tree ≡ false → state_of new ≡ with_tree (list_finished (offset q) r) (tree_of new)
      → AddsText (document text options own) (offset q) None (list_finished (offset q) r).tree (tree_of new) next
      → ((from : ℕ) → from ≤ offset q → AddsBetween text from next (list_finished (offset q) r).tree (tree_of new)) → ReadsText old new p q next
  plain_text after is block fits =
      added_text (offset q) is block
      (λ xs. text_away r.tree (possible_title r.tree) (offset q) (flowing_block q xs block.items) (lines_from text next) refl after refl)
      (λ o. ordered_leaf text r (state_of new) q.line (offset q) (offset q) (offset q) next
      (record { low = omega arith; later = omega arith; ends = inr refl; boundary = stands.boundary; none = is_at.none; order = o })
      (fits (offset q) (omega arith)) block.boundary.0 (ap (λ (z : PassState). z.begin_list_item) is ∙ list_finished_none (offset q) r))
      (λ from low apart. let grows = block_count text from next (list_finished (offset q) r).tree (tree_of new) (fits from low) apart in
      let same = list_finished_count (offset q) r in omega arith)

  -- a text right after a definition
  module _ (after : is_after_definition r.tree ≡ true) (read : Forest Item) (is_forest : IsForest read)
      (block : AddsText (document text options own) (offset q) None r.tree read next)
      (fits : (from : ℕ) → from ≤ offset q → AddsBetween text from next r.tree read) where
    abbrev last : ℕ
    last = current_end r.tree

    grown : (from : ℕ) → from ≤ offset q → from < next → GrowsBy from next r.tree.nodes read.nodes
    grown from low apart = block_count text from next r.tree read (fits from low) apart

    read_there : OrderedUpTo text r.tree (line_or r.tree q.line (offset q)) → ReadAfterDefinition text r read next
    read_there o = record {
      at = line_or r.tree q.line (offset q);
      start = offset q;
      forest = is_at.forest;
      after = after;
      none = is_at.none;
      ordered = o.0;
      closes = o.1;
      later = line_or-below r.tree q.line (offset q) (omega arith);
      adds = fits;
      within = block.boundary.0;
    }

    begins_as : begins_paragraph block.items ≡ is_paragraph_last read
    begins_as = sym (last_begins r.tree block.items) ∙ ap is_paragraph_last (sym block.tree_is)

    -- a paragraph
    kept_text : is_paragraph_last read ≡ true → state_of new ≡ title_begun last (with_tree r read) → ReadsText old new p q next
    kept_text para is =
        let current : current_body read ≡ Some ParagraphBody = is_paragraph_by (current_body read) para in
        record {
          later = block.later;
          boundary = block.boundary;
          ready = λ more extends xs defined run ready. rw (is, block.tree_is)
              (ready_kept (document text options more) defined r p q next xs block.items is_at.forest kind stands run (block.is_text more extends) after
              is_at.none (begins_as ∙ para) ready);
          order = λ o. rw is (read_title_begun text r read next (read_there o) last refl current);
          node_bound = λ from low apart. let g = grown from low apart in
              let same = ap count is ∙ title_begun_count last (with_tree r read) current in omega arith;
          kept = λ more. let added = text_kept (document text options own) before r.tree read q None next block stands tt more in (
            λ h. rw is (title_begun_named own last (with_tree r read) (added.0 h)),
            λ h k. rw is (title_begun_whole own last (with_tree r read) current (added.1 h k)),
          );
          footnotes = ap notes is ∙ title_begun_notes last (with_tree r read) current
              ∙ text_unnoted (document text options own) r.tree read q None next block stands tt;
        }

    -- a heading or a table
    left_text : is_paragraph_last read ≡ false → state_of new ≡ definitions_left last (with_tree r read) → ReadsText old new p q next
    left_text para is =
        let done : PassState = list_finished last r in
        let other : begins_paragraph block.items ≡ false = begins_as ∙ para in
        let flat = text_flat (document text options own) _ q None _ _ tt (block.is_text own (extends_none own) q stands refl) in
        let now : state_of new ≡ with_tree done (added done.tree block.items) =
        is ∙ ap (λ f. definitions_left last (with_tree r f)) block.tree_is
        ∙ left_is r block.items last is_at.forest (subst IsForest block.tree_is is_forest) after is_at.none (flat.flat other) in
        let tree = ap (λ (z : PassState). z.tree) now in
        added_text last (now ∙ ap (with_tree done) (sym tree)) (record {
          items = block.items;
          is_text = λ more extends. rw (path_finished options last r is_at.none) (block.is_text more extends);
          tree_is = tree;
          later = block.later;
          boundary = block.boundary;
        })
        (λ xs. away_left r q xs block.items (lines_from text next) after other)
        (λ o. rw is (read_definitions_left text r read next (read_there o) last refl))
        (λ from low apart. let g = grown from low apart in
        let same = ap count is in
        let node_bound = definitions_left_count last (with_tree r read) in
        omega arith)

    -- a text that is a possible title, or is none
    title_text : (t : Bool) → is_paragraph_last read ≡ t
        → state_of new ≡ (if t then title_begun last (with_tree r read) else definitions_left last (with_tree r read)) → ReadsText old new p q next
    title_text true para is = kept_text para is
    title_text false para is = left_text para is

-- a text that is added after a new block ended any list
pub new_text : (old new : BlockPass) (ended : PassState) (at next : ℕ) → is_after_definition (tree_of old) ≡ false → ended ≡ list_finished at (state_of old)
    → source_of new ≡ source_of old → NamesMore (allocs_of old) (allocs_of new)
    → AddsText (document (source_text old) (source_options old) (names_of (allocs_of new))) at None ended.tree (tree_of new) next
    → ((from : ℕ) → from ≤ at → AddsBetween (source_text old) from next ended.tree (tree_of new)) → state_of new ≡ with_tree ended (tree_of new)
    → ReadsTextOrTitle old new at next
new_text old new ended at next after is source more text fits state =
    inr (record { after = after; source = source; more = more; text = rw is at text; fits = rw is at fits; state_is = rw is at state })

-- a text is added at an offset, and lies between others
abbrev AddsAt : Source → Names → ℕ → Forest Item → Forest Item → ℕ → Type 0
AddsAt source own at f g next =
    AddsText (document source.text.now source.options own) at None f g next × ((from : ℕ) → from ≤ at → AddsBetween source.text.now from next f g)

-- the text after link reference definitions, or after none
text_read : (old mid new : BlockPass) (p : Place) (at next : ℕ) → IsStateAtPlace (source_text old) (state_of old) p
    → IsKind (source_options old) p.rest Paragraph → (definitions : RunRead old mid p (TextAfter at))
    → ReadsTextOrTitle mid new (offset definitions.run.place) next → ReadsLeaf old new p next
text_read old mid new p at next is_at kind definitions (inl (after, t)) =
    let kept = definitions.kept in
    let q : Place = definitions.run.place in
    let own = names_of (allocs_of new) in
    let adds = subst (λ (s : PassState). AddsAt (source_of old) own (offset q) s.tree t.read next) kept.state
    (subst (λ (z : Source). AddsAt z own (offset q) (tree_of mid) t.read next) kept.source (t.text, t.fits)) in
    run_text old mid new p at next is_at kind definitions t.source t.more
    (title_text old new p q next is_at kind definitions.run.stands (ap (λ (s : PassState). is_after_definition s.tree) (sym kept.state) ∙ after) t.read t.forest
    adds.0 adds.1 (is_paragraph_last t.read) refl (t.state_is ∙ ap (λ (s : PassState). title_read (current_end s.tree) (with_tree s t.read)) kept.state))
text_read old mid new p at next is_at kind definitions (inr t) =
    let kept = definitions.kept in
    let q : Place = definitions.run.place in
    let own = names_of (allocs_of new) in
    let adds = subst (λ (s : PassState). AddsAt (source_of old) own (offset q) (list_finished (offset q) s).tree (tree_of new) next) kept.state
    (subst (λ (z : Source). AddsAt z own (offset q) (list_finished (offset q) (state_of mid)).tree (tree_of new) next) kept.source (t.text, t.fits)) in
    run_text old mid new p at next is_at kind definitions t.source t.more
    (plain_text old new p q next is_at kind definitions.run.stands (ap (λ (s : PassState). is_after_definition s.tree) (sym kept.state) ∙ t.after)
    (t.state_is ∙ ap (λ (s : PassState). with_tree (list_finished (offset q) s) (tree_of new)) kept.state) adds.0 adds.1)

pub run_text_or_title : (old mid new : BlockPass) (p : Place) (at next : ℕ) → IsStateAtPlace (source_text old) (state_of old) p
    → IsKind (source_options old) p.rest Paragraph → RunRead old mid p (TextAfter at) → ReadsTextOrTitle mid new at next → ReadsLeaf old new p next
run_text_or_title old mid new p at next is_at kind definitions t =
    text_read old mid new p at next is_at kind definitions (rw definitions.run.says at t)

-- no column is owed at a place, and a plain byte is next
abbrev pub IsAtPlain : Place → Type 0
IsAtPlain p = (p.rest.owed ≡ 0) × (begins_plain p.rest.left ≡ true)

-- the text that begins with a plain byte
pub plain_leaf : (old new : BlockPass) (p : Place) (next : ℕ) → IsStateAtPlace (source_text old) (state_of old) p → IsAtPlain p
    → ReadsTextOrTitle old new (offset p) next → ReadsLeaf old new p next
unfolding is_plain
plain_leaf old new p next is_at (owed, plain) =
    let same : p ≡ unindented p = ap (place_at p.line) (sym (plain_all p.rest owed plain)) in
    let other = ap (begins left_bracket) (sym is_at.place.left) ∙ plain_begins left_bracket p.rest.left plain refl in
    run_text_or_title old old new p (offset p) next is_at (plain_kind (source_options old) p.rest owed plain)
    (record { kept = puts_none old; run = rw (← same) (run_is_empty (source_text old) (context_in old) _ p (offset p) _ is_at.place refl other) })
