-- A leaf block is read at a place where no container begins, or in the line after the tag of a block quote. Directly
-- after a definition, a paragraph may be the next title.
use Rattle.std.proofs.Common.{◌≡◌, inl, inr, ℕ, suc, ◌+◌, ◌<◌, Bool, true, false, List, [], ◌∷◌, ◌++◌, length, map, drop, slice_get, Option, Some, None, refl}
use Rattle.std.proofs.Common.{sym, ap, subst, ◌∙◌, arith, if◌then◌else◌, append-nil, option_and_then, true≢false}
use Rattle.first_pass_grammar.proofs.Common.{length-map, Item, ItemBody, DefinitionList, MaybeDefinitionListTitle, BlockQuoteKind, ListFlags, TreeIndex, Forest}
use Rattle.first_pass_grammar.proofs.Common.{IsForest, added, at_depth, body_at, Place, offset, line_end, IsPlaceOf, line_rest, place_at, begins_paragraph}
use Rattle.first_pass_grammar.proofs.Common.{is_run, LeafBlock, Block, flowing_block, BlankLine, block_at, leaf_block, Tables, with_definitions, unindented}
use Rattle.first_pass_grammar.proofs.Common.{IsKind, interrupts, is_ordinary_after_tag, Kind, Blank, FlowsOn, IsRun, kind_in, Beyond, Ended, LinkEntry}
use Rattle.first_pass_grammar.proofs.Common.{with_links, Document, around, Level, Line, Inside, OpensLeaf, OpensAs, Opens, Continues, AtPlace, OnlyALeaf}
use Rattle.first_pass_grammar.proofs.Common.{after_tag, OpensBeyond, OpensRun, TextOf, IsFirst, Opening, OpensText, OpensBlockAt, OpensBy, next_block}
use Rattle.first_pass_grammar.proofs.Common.{lines_from, ended, DefinitionClosed, TitleAt, Frame, InDefinitions, AreBelow, Closed, containers_of, IsPlain}
use Rattle.first_pass_grammar.proofs.Common.{AreEachNode, ShowsNothing, SilentFrom, SilentClosed, Options, body-kept, modify-at, cases_lt, line_len}
use Rattle.first_pass_grammar.proofs.Common.{lines_at-line, lines_at-end, Context, front, columns_line_end, is_task_marker, is_paragraph, start_at, taking}
use Rattle.first_pass_grammar.proofs.Common.{IsText, footnote_head_at, and-true, false_from_ne_true}
use Rattle.first_pass_containers.proofs.Common.{path_of, context_of, PassState, Container, get_front, Paragraph, task_shows, line_end_at, list_finished_none}
use Rattle.first_pass_containers.proofs.Common.{open_below, frame-append, frame-ended, open_path, definitions_frame, HasFrame, tokens_show, ready_blank}
use Rattle.first_pass_containers.proofs.Common.{silent_past, text_silent, opened_silent, ready_plain, kind_holds, end_there, CompletesAt, Tail, modify-append}
use Rattle.first_pass_containers.proofs.Common.{tail, lvl, length-ended, opens_stays, completes-reended, open_nodes, Innermost, innermost_of, ends_past}
use Rattle.first_pass_containers.proofs.Common.{ReadyLeaf, ReadyInQuote, ReadyTagged, ReadyLazy, ReadyText, deeper_nodes, AreIn, open_are_in, front-end}
use Rattle.first_pass_items.specs.declared.item.ItemBody.TheVariants.{BlockQuote as BlockQuoteBody, List as ListBody}
use Rattle.first_pass_grammar.specs.Blocks.{run_block}
use Rattle.first_pass_completion.proofs.DefinitionSteps.{completes-possible_title}
use Rattle.first_pass_lists.specs.Closing.{with_tree, top_body, top_end, is_after_definition, title_begun, is_list, is_definition_list, possible_title}
use Rattle.first_pass_lists.specs.Closing.{list_finished, blank_read_by, blank_read}
use Rattle.first_pass_ready.specs.State.{closed_in, AreOpen, ReadyAt, Ready}
use Rattle.first_pass_containers.specs.Positions.{may_define}
use Rattle.first_pass_containers.specs.TextsAdded.{IsTextAt}
use Rattle.first_pass_containers.specs.Titles.{current_end}
use Rattle.first_pass_ready.proofs.ClosedIn.{IsTop, top_of, level_of, open_level, closed_definition, takes_same, title_is}
use Rattle.first_pass_ready.proofs.FinishLemmas.{EndsListAt, plain_by, OpensOther, ready_finished}
use Rattle.first_pass_ready.proofs.LeftBlocks.{IsAfterDefinition, past_definition}
use Rattle.first_pass_containers.proofs.Leaves.FirstItems.{text_flat, mark_by}
use Rattle.first_pass_completion.proofs.Completions.{counted_after, completes-leaf, completes-blank, completes-block, completes-text}
use Rattle.first_pass_completion.proofs.Closings.{leaf_closes}
use Rattle.first_pass_completion.proofs.Titles.{closed_after}
use Rattle.first_pass_ready.proofs.AddedLemmas.{begun_at, closed_added, silent_begun, open_added, no_list_added}
use Rattle.first_pass_ready.proofs.BegunLemmas.{depth_of, opens_bare}
use Rattle.first_pass_containers.proofs.OrderSteps.{list_finished_blank}
use Rattle.first_pass_kinds.proofs.KindLemmas.{kind_says}
use Rattle.first_pass_containers.proofs.Openings.StartLemmas.{finishes_none}
use Rattle.first_pass_order.proofs.OrderLemmas.{get_mid}

-- a blank line directly in a block quote does not count
counts_quoted : (options : Options) (frames : List Frame) (kind : Option BlockQuoteKind) (closed : Closed)
    → IsTop options (Some (BlockQuoteBody kind)) frames → counted_after frames (tail closed false) ≡ false
counts_quoted options frames kind closed is = grind (arith, is)

-- At the end of the text no line belongs to it.
pub tag_end : (around : Context) → is_ordinary_after_tag around (line_rest []) ≡ true
unfolding interrupts
tag_end around = rw (front-end around.path) refl

-- the place where blocks continue after its tag, in the line at an offset
tag_line : (around : Context) (text : List ℕ) (at : ℕ) (t : Bool) → is_ordinary_after_tag around (line_rest (drop at text)) ≡ t
    → (let lines : List Place = lines_from text at in
    after_tag around lines ≡ (if t then (Line, lines)
    else (AtPlace (unindented (place_at at (front around.path (line_rest (drop at text))))) OnlyALeaf, lines_from text (at + line_len (drop at text)))))
tag_line around text at t is = grind (arith, cases_lt, lines_at-line, lines_at-end, ends_past, tag_end)

-- the line after its tag, if it is read like any other
pub ready_any_line : (d : Document) (defined : Tables) (r : PassState) (at : ℕ)
    → is_ordinary_after_tag (context_of d.options r.tree) (line_rest (drop at d.text)) ≡ true
    → r.begin_list_item ≡ None → ReadyTagged d defined r (lines_from d.text at) → Ready d defined r (lines_from d.text at)
ready_any_line d defined r at is none tagged =
    let lines : List Place = lines_from d.text at in
    let here : after_tag (context_of d.options r.tree) lines ≡ (Line, lines) = tag_line (context_of d.options r.tree) d.text at true is in
    ready_plain d defined r lines none (subst (λ t. ReadyAt d defined r.tree t Line lines) (sym tagged.blank)
    (subst (λ (z : Continues × List Place). ReadyAt d defined r.tree false z.0 z.1) here tagged.ready))

-- the same line, if it belongs to the quote
pub ready_its_line : (d : Document) (defined : Tables) (r : PassState) (at : ℕ)
    → is_ordinary_after_tag (context_of d.options r.tree) (line_rest (drop at d.text)) ≡ false → ReadyTagged d defined r (lines_from d.text at)
    → ReadyLazy d defined r (unindented (place_at at (front (path_of d.options r.tree) (line_rest (drop at d.text)))))
    (lines_from d.text (at + line_len (drop at d.text)))
ready_its_line d defined r at is tagged =
    subst (λ (z : Continues × List Place). ReadyInQuote d defined r z.0 z.1) (tag_line (context_of d.options r.tree) d.text at false is) tagged

-- ---- a leaf block

-- The end of the line at an offset is that of the line of its place.
pub line_end_of : (text : List ℕ) (p : Place) → IsPlaceOf text (unindented p) → line_end_at text (offset (unindented p)) ≡ line_end p
line_end_of text p i = grind (arith, columns_line_end)

-- if no container begins, the block that the kind of the place opens
pub no_container : (d : Document) (f : Forest Item) (run : Bool) (p : Place) (lines : List Place) (k : Kind) (o : Opening)
    → footnote_head_at (context_of d.options f) p ≡ None → start_at d.options (may_define d.options f) p ≡ None → IsKind d.options p.rest k
    → OpensAs d (path_of d.options f) p lines (kind_in (context_of d.options f) p k) o → Opens d (level_of d.options f run) p lines o
unfolding OpensBy
no_container d f run p lines k o bare no_start kind opens = grind (arith, takes_same, opens_bare)

-- a leaf block that is no paragraph ends any list at the place that it gives
pub kind_away : (top : Option ItemBody) (closed : Closed) (at : ℕ) (block : LeafBlock) (left : List Place) → is_paragraph block.kind ≡ false
    → begins_paragraph block.items ≡ false → leaf_closes block ≡ at → EndsListAt at top closed (OpensLeaf (Block block) Line left)
kind_away (Some (ListBody flags list number)) closed at block left other begins closes = closes
kind_away (Some (DefinitionList flags)) (DefinitionClosed e blanks) at block left other begins closes = grind arith
kind_away top closed at block left other begins closes = tt

-- any leaf block does so unless it is right after a definition
items_away : (top : Option ItemBody) (closed : Closed) (at : ℕ) (block : LeafBlock) (left : List Place) → is_definition_list top ≡ false
    → leaf_closes block ≡ at → EndsListAt at top closed (OpensLeaf (Block block) Line left)
items_away (Some (ListBody flags list number)) closed at block left none closes = closes
items_away (Some (DefinitionList flags)) closed at block left none closes = cc
items_away top closed at block left none closes = tt

pub text_away : (f : Forest Item) (o : Option TreeIndex) (at : ℕ) (block : LeafBlock) (left : List Place) → possible_title f ≡ o
    → is_after_definition f ≡ false → leaf_closes block ≡ at → EndsListAt at (top_body f) (closed_in f) (OpensLeaf (Block block) Line left)
text_away f None at block left is after closes = grind (arith, items_away, and-true)
text_away f (Some title) at block left is after closes = let t = title_is f title is in rw (t.closed, t.top) tt

-- A leaf block was read into the open nodes of a tree, and no list is innermost: its items after the nodes can become
-- a derivation.
record IsRead (d : Document) (defined : Tables) (f : Forest Item) (block : LeafBlock) (left : List Place) : Type 0 where
  from : Continues
  lines : List Place
  ready : ReadyAt d defined f false from lines
  plain : IsPlain ready.frames
  shows : begins_paragraph block.items ≡ true → AreEachNode ShowsNothing block.items
  completes : (let os : List ℕ = map (λ (i : TreeIndex). i.0) f.spine in
      CompletesAt d (with_definitions defined block.definitions) (tail (closed_after (length f.nodes) block (closed_in f)) block.gap) ready.frames
      (f.nodes ++ at_depth (suc (length os)) block.items) os Line left)

-- the items of a block, added
block_ready : (d : Document) (defined : Tables) (f : Forest Item) (block : LeafBlock) (left : List Place) → is_run block.kind ≡ false
    → IsRead d defined f block left → ReadyAt d (with_definitions defined block.definitions) (added f block.items) block.gap Line left
block_ready d defined f block left other is =
    let os : List ℕ = map (λ (i : TreeIndex). i.0) f.spine in
    let g : Forest Item = added f block.items in
    let now : Tables = with_definitions defined block.definitions in
    let frames : List Frame = is.ready.frames in
    let o = open_added d f block.items frames is.ready.completes.below is.ready.are_open in
    let last : closed_in g ≡ begun_at (length f.nodes) block.items = closed_added f block.items (no_list_added d f block.items frames is.plain o) in
    let after : Closed = closed_after (length f.nodes) block (closed_in f) in
    let same : after ≡ closed_in g = rw other (sym last) in
    record {
      frames = frames;
      are_open = o;
      silent = subst (SilentClosed g.nodes) (sym last) (silent_begun f.nodes (length f.spine + 1) block.items is.shows);
      completes = subst (λ z. CompletesAt d now (tail z block.gap) frames g.nodes os Line left) same
          (subst (λ z. CompletesAt d now (tail after block.gap) frames (f.nodes ++ at_depth z block.items) os Line left) (depth_of f.spine) is.completes);
    }

-- link reference definitions by themselves add nothing
run_ready : (d : Document) (defined : Tables) (f : Forest Item) (q : Place) (xs : List LinkEntry) (left : List Place)
    → IsRead d defined f (run_block q xs) left → ReadyAt d (with_definitions defined xs) f false Line left
run_ready d defined f q xs left is =
    let os : List ℕ = map (λ (i : TreeIndex). i.0) f.spine in
    record {
      frames = is.ready.frames;
      are_open = is.ready.are_open;
      silent = is.ready.silent;
      completes = subst (λ z. CompletesAt d (with_definitions defined xs) (tail (closed_in f) false) is.ready.frames z os Line left)
          (append-nil f.nodes) is.completes;
    }

-- A leaf block begins at the place of a state: it is the one that a kind opens there. If a list is innermost, the block
-- ends it at an offset. No item is empty.
pub record LeafBegins (d : Document) (r : PassState) (p : Place) (left : List Place) (at : ℕ) (block : LeafBlock) : Type 0 where
  pub forest : IsForest r.tree
  pub none : r.begin_list_item ≡ None
  pub kind : Kind
  pub is_kind : IsKind d.options p.rest kind
  pub opens : OpensAs d (path_of d.options r.tree) p (lines_from d.text (line_end p)) (kind_in (context_of d.options r.tree) p kind)
      (OpensLeaf (Block block) Line left)
  pub away : (is_paragraph block.kind ≡ false → begins_paragraph block.items ≡ false)
      → EndsListAt at (top_body r.tree) (closed_in r.tree) (OpensLeaf (Block block) Line left)

-- A block was added to a tree: its items are the last nodes of a state, which records whether a blank line at the end
-- of the block counts. No item is empty.
pub record BlockAdded (old : Forest Item) (new : PassState) (items : List (ℕ × Item)) (gap : Bool) : Type 0 where
  pub tree_is : new.tree ≡ added old items
  pub none : new.begin_list_item ≡ None
  pub blank : new.blank ≡ gap

-- A leaf block that begins at a place was read. After the tag of a block quote it ends nothing.
leaf_is_read : (d : Document) (defined : Tables) (r : PassState) (p : Place) (left : List Place) (at : ℕ) (block : LeafBlock)
    → LeafBegins d r p left at block → ReadyLeaf d defined r p (lines_from d.text (line_end p)) → IsRead d defined (list_finished at r).tree block left
unfolding next_block
leaf_is_read d defined r p left at block b leaf =
    let lines : List Place = lines_from d.text (line_end p) in
    let opening : Opening = OpensLeaf (Block block) Line left in
    let holds = kind_holds ShowsNothing d (tokens_show d.names.texts) (path_of d.options r.tree) p lines (kind_in (context_of d.options r.tree) p b.kind)
    opening b.opens in
    let shows = λ (begins : begins_paragraph block.items ≡ true). text_silent block.items begins holds.0.tokens in
    let none = λ (other : is_paragraph block.kind ≡ false). false_from_ne_true (begins_paragraph block.items)
    (λ begins. true≢false (sym (holds.1.kind begins) ∙ other)) in
    elim leaf [
      | inl plain ↦
          let (bare, no_start, ready) = plain in
          let opens = no_container d r.tree r.blank p lines b.kind opening bare no_start b.is_kind b.opens in
          let begins : OpensOther d (path_of d.options r.tree) p opening =
          record { stays = opens_stays d (level_of d.options r.tree r.blank) p lines opening refl opens; block = tt; other = refl } in
          let done = ready_finished d defined r p lines at opening (record { forest = b.forest; none = b.none; ready = ready }) begins opens (b.away none) in
          let f : Forest Item = (list_finished at r).tree in
          let now = done.ready.0 in
          let k = completes-block d (open_nodes defined now.frames f.nodes (map (λ (i : TreeIndex). i.0) f.spine)) (closed_in f) p lines left block
          done.ready.1 (subst (λ z. Opens d z p lines opening) (open_level d.options f now.frames false now.are_open) done.opens) now.completes in
          record { from = Inside p; lines = lines; ready = now; plain = done.ready.1; shows = shows; completes = k }
      | inr lazy ↦
          let f : Forest Item = r.tree in
          let ready = lazy.ready in
          let frames : List Frame = ready.frames in
          let plain = plain_by d.options f.nodes f.spine frames ready.are_open (ap is_list lazy.quote) in
          let first : IsFirst d (lvl frames (tail (closed_in f) false)) (AtPlace p OnlyALeaf) lines opening = record {
            place = p;
            following = lines;
            begins = refl;
            opens = subst (λ z. OpensBlockAt d z p lines opening) (open_path d.options f.nodes f.spine frames ready.are_open) (b.kind, b.is_kind, b.opens);
          } in
          let k = completes-leaf d (open_nodes defined frames f.nodes (map (λ (i : TreeIndex). i.0) f.spine)) (closed_in f) (AtPlace p OnlyALeaf) lines left
          block plain (λ path mid. refl) tt first ready.completes in
          rw (finishes_none at r (record { none = b.none; blank = lazy.blank; plain = ap is_list lazy.quote }))
          (record { from = AtPlace p OnlyALeaf; lines = lines; ready = ready; plain = plain; shows = shows; completes = k })
    ]

-- a leaf block is added at its place
pub ready_added : (d : Document) (defined : Tables) (r new : PassState) (p : Place) (left : List Place) (at : ℕ) (block : LeafBlock)
    → is_run block.kind ≡ false → LeafBegins d r p left at block → BlockAdded (list_finished at r).tree new block.items block.gap
    → ReadyLeaf d defined r p (lines_from d.text (line_end p)) → Ready d (with_definitions defined block.definitions) new left
ready_added d defined r new p left at block other b now ready =
    let known : Tables = with_definitions defined block.definitions in
    let is = leaf_is_read d defined r p left at block b ready in
    ready_plain d known new left now.none (rw (now.blank, now.tree_is) (block_ready d defined (list_finished at r).tree block left other is))

-- a blank line at the place of a leaf
pub ready_blank_leaf : (d : Document) (defined : Tables) (r : PassState) (p : Place) (lines : List Place)
    → IsKind d.options p.rest Blank → r.begin_list_item ≡ None → ReadyLeaf d defined r p lines → Ready d defined (blank_read r) lines
unfolding blank_read OpensAs next_block
ready_blank_leaf d defined r p lines kind none (inl (bare, no_start, ready)) =
    ready_blank d defined r p lines (kind_says d.options p.rest Blank kind) none ready
ready_blank_leaf d defined r p lines kind none (inr lazy) =
    let f : Forest Item = r.tree in
    let ready = lazy.ready in
    let frames : List Frame = ready.frames in
    let os : List ℕ = map (λ (i : TreeIndex). i.0) f.spine in
    let t : Tail = tail (closed_in f) false in
    let first : IsFirst d (lvl frames t) (AtPlace p OnlyALeaf) lines (OpensLeaf BlankLine Line lines) =
    record { place = p; following = lines; begins = refl; opens = (Blank, kind, refl) } in
    let counts = counts_quoted d.options frames lazy.kind (closed_in f)
    (subst (λ z. IsTop d.options z frames) lazy.quote (top_of d.options f.nodes f.spine frames ready.are_open)) in
    let now : ReadyAt d defined f false Line lines = record {
      frames = frames;
      are_open = ready.are_open;
      silent = ready.silent;
      completes = subst (λ z. CompletesAt d defined (tail (closed_in f) z) frames f.nodes os Line lines) counts
          (completes-blank d defined t frames f.nodes os (AtPlace p OnlyALeaf) lines lines (λ path mid. refl) first ready.completes);
    } in
    subst (λ q. Ready d defined q lines) (sym (ap (blank_read_by r) lazy.quote))
    (ready_plain d defined r lines none (subst (λ t. ReadyAt d defined f t Line lines) (sym lazy.blank) now))

-- a paragraph, heading or table, after a task list item marker or not, is the one that opens at its place
opens_text : (d : Document) (path : List Container) (p : Place) (next : ℕ) (marker : Option Item) (items : List (ℕ × Item))
    → IsText d path (unindented p) marker (lines_from d.text (line_end (unindented p))) (taking items (lines_from d.text next))
    → OpensText d path p (lines_from d.text (line_end p)) marker (OpensLeaf (leaf_block Paragraph p items false) Line (lines_from d.text next))
unfolding OpensText
opens_text d path p next marker items is = grind (arith, columns_line_end)

-- if nothing is defined, nothing changes
pub told_none : (defined : Tables) → with_definitions defined [] ≡ defined
unfolding with_links
told_none defined = refl

-- a kind that is no paragraph stays the same
pub kind_in_other : (around : Context) (p : Place) (kind : Kind) → is_paragraph kind ≡ false → kind_in around p kind ≡ kind
kind_in_other around p Paragraph h = absurd (true≢false h)
kind_in_other around p kind h = refl

-- the opening after link reference definitions, or after none
pub text_opens : (d : Document) (path : List Container) (p : Place) (lines : List Place) (xs : List LinkEntry) (b : Beyond) (o : Opening)
    → IsRun (around d path) (unindented p) lines xs b → OpensBeyond d path xs b o → OpensAs d path p lines (kind_in (around d path) p Paragraph) o
unfolding IsRun OpensAs OpensRun OpensText
text_opens d path p lines [] b o (none, is) opens = rw none (subst (λ z. OpensBeyond d path [] z o) is opens)
text_opens d path p lines (x ∷ xs) b o (here, more) opens = rw here (x ∷ xs, b, (here, more), opens)

-- the paragraph, heading or table at a place, after link reference definitions or none
pub opens_flow : (d : Document) (path : List Container) (q : Place) (next : ℕ) (xs : List LinkEntry) (items : List (ℕ × Item))
    → IsText d path q None (lines_from d.text (line_end q)) (taking items (lines_from d.text next))
    → OpensBeyond d path xs (FlowsOn q (lines_from d.text (line_end q))) (OpensLeaf (Block (flowing_block q xs items)) Line (lines_from d.text next))
opens_flow d path q next xs items is = (taking items (lines_from d.text next), is, refl)

-- after link reference definitions without a paragraph after them, the last of which begins at a place
pub ready_ended : (d : Document) (defined : Tables) (r : PassState) (p q : Place) (next : ℕ) (xs : List LinkEntry)
    → IsForest r.tree → IsKind d.options p.rest Paragraph
    → IsRun (context_of d.options r.tree) (unindented p) (lines_from d.text (line_end p)) xs (Ended q (lines_from d.text next)) → r.begin_list_item ≡ None
    → ReadyLeaf d defined r p (lines_from d.text (line_end p)) → Ready d (with_definitions defined xs) (list_finished q.line r) (lines_from d.text next)
ready_ended d defined r p q next xs forest kind run none ready =
    let lines : List Place = lines_from d.text (line_end p) in
    let left : List Place = lines_from d.text next in
    let now : PassState = list_finished q.line r in
    let block : LeafBlock = run_block q xs in
    let opens = text_opens d (path_of d.options r.tree) p lines xs (Ended q left) (OpensLeaf (Block block) Line left) run refl in
    let begins : LeafBegins d r p left q.line block = record {
      forest = forest;
      none = none;
      kind = Paragraph;
      is_kind = kind;
      opens = opens;
      away = λ begins. kind_away (top_body r.tree) (closed_in r.tree) q.line block left refl refl refl;
    } in
    let is = leaf_is_read d defined r p left q.line block begins ready in
    ready_plain d (with_definitions defined xs) now left (list_finished_none q.line r)
    (rw (list_finished_blank q.line r) (run_ready d defined now.tree q xs left is))

-- after the text of a task list item
pub ready_text : (d : Document) (defined : Tables) (r new : PassState) (p : Place) (next : ℕ) (marker : Item) (items : List (ℕ × Item))
    → is_task_marker marker.body ≡ true
    → IsText d (path_of d.options r.tree) (unindented p) (Some marker) (lines_from d.text (line_end (unindented p))) (taking items (lines_from d.text next))
    → BlockAdded r.tree new items r.blank → ReadyText d defined r marker p (lines_from d.text (line_end p)) → Ready d defined new (lines_from d.text next)
unfolding next_block
ready_text d defined r new p next marker items mark is result text =
    let ready = text.ready in
    let f : Forest Item = r.tree in
    let frames : List Frame = ready.frames in
    let os : List ℕ = map (λ (i : TreeIndex). i.0) f.spine in
    let lines : List Place = lines_from d.text (line_end p) in
    let left : List Place = lines_from d.text next in
    let block : LeafBlock = block_at Paragraph p items false in
    let opens = opens_text d (containers_of frames) p next (Some marker) items
    (subst (λ path. IsText d path (unindented p) (Some marker) (lines_from d.text (line_end (unindented p))) (taking items left))
    (open_path d.options f.nodes f.spine frames ready.are_open) is) in
    let l : Level = lvl frames (tail (closed_in f) false) in
    let first : IsFirst d l (AtPlace p (TextOf marker)) lines (OpensLeaf (Block block) Line left) =
    record { place = p; following = lines; begins = refl; opens = opens } in
    let read : IsRead d defined f block left = record {
      from = AtPlace p (TextOf marker);
      lines = lines;
      ready = ready;
      plain = text.plain;
      shows = opened_silent d l (AtPlace p (TextOf marker)) lines block Line left (task_shows marker.body mark) first;
      completes = completes-text d (open_nodes defined frames f.nodes os) (closed_in f) marker p lines left block text.plain (mark_by marker.body mark)
          opens ready.completes;
    } in
    let now : ReadyAt d (with_definitions defined []) (added f items) false Line left = block_ready d defined f block left refl read in
    ready_plain d defined new left result.none (rw (result.blank ∙ text.blank, result.tree_is)
    (subst (λ z. ReadyAt d z (added f items) false Line left) (told_none defined) now))

-- ---- a text right after a definition: a paragraph may be the next title, and a heading or a table ends the list

-- The rest of a line opens a leaf block that begins like a paragraph and has these nodes.
record OpensParagraph (d : Document) (l : Level) (p : Place) (lines left : List Place) (items : List (ℕ × Item)) : Type 0 where
  block : LeafBlock
  is : block.items ≡ items
  begins : begins_paragraph block.items ≡ true
  opens : Opens d l p lines (OpensLeaf (Block block) Line left)

after_top : (f : Forest Item) (b : IsAfterDefinition f) → top_body f ≡ Some (DefinitionList b.flags)
after_top f b = ap (λ (s : List TreeIndex). option_and_then (λ (ix : TreeIndex). body_at f.nodes ix.0) (slice_get s 0)) b.spine ∙ b.body

-- right after a definition, the last child is one and ends where the current node does
pub after_last : (f : Forest Item) → IsAfterDefinition f → (blanks : Bool) × (closed_in f ≡ DefinitionClosed (current_end f) blanks)
after_last f b = closed_definition f b.flags (after_top f b) b.none

-- The tree with a possible title: the nodes that were read after the definition, and the end of that as the recorded
-- end of the list.
module _ (f : Forest Item) (x : ℕ × Item) (items : List (ℕ × Item)) (e : ℕ) (ix : TreeIndex) (rest : List TreeIndex) (spine : f.spine ≡ ix ∷ rest)
    (low : ix.0 < length f.nodes) where
  abbrev title_item : Item
  title_item = record { start = x.1.start; «end» = x.1.«end»; body = MaybeDefinitionListTitle }

  abbrev title_nodes : List (ℕ × Item)
  title_nodes = (length f.spine + 1 + x.0, title_item) ∷ at_depth (length f.spine + 1) items

  abbrev kept : Forest Item
  kept = record { nodes = ended f.nodes ix.0 e ++ title_nodes; spine = f.spine; current = Some (record { 0 = length f.nodes }) }

  kept_is : (r : PassState) → title_begun e (with_tree r (added f (x ∷ items))) ≡ record r { tree = kept; blank = false }
  unfolding title_begun ended
  kept_is r = grind (arith, modify-at, modify-append)

  inside : (i : ℕ) → i < length f.nodes → i < length (ended f.nodes ix.0 e)
  inside i h = let n = length-ended f.nodes ix.0 e in omega arith

  kept_top : (flags : ListFlags) → body_at f.nodes ix.0 ≡ Some (DefinitionList flags) → top_body kept ≡ Some (DefinitionList flags)
  unfolding ended
  kept_top flags body =
      let within : ix.0 < length (ended f.nodes ix.0 e) = inside ix.0 low in
      rw (spine, get_front) (body-kept f.nodes ix.0 ix.0 (λ y. record { start = y.start; «end» = e; body = y.body }) (λ y. refl) ∙ body)

  kept_end : top_end kept ≡ e
  unfolding ended
  kept_end =
      let within : ix.0 < length (ended f.nodes ix.0 e) = inside ix.0 low in
      rw (spine, get_front) (end_there f.nodes ix.0 e low)

  kept_closed : (flags : ListFlags) → body_at f.nodes ix.0 ≡ Some (DefinitionList flags) → closed_in kept ≡ TitleAt e (length f.nodes)
  kept_closed flags body = grind (arith, length-ended, get_mid, kept_top, kept_end)

  kept_silent : AreEachNode ShowsNothing items → SilentFrom kept.nodes (length f.nodes)
  kept_silent h = grind (arith, length-ended, silent_past, deeper_nodes)

  kept_open : (options : Options) (frames : List Frame) → AreBelow (length f.nodes) (ix.0 ∷ map (λ (i : TreeIndex). i.0) rest)
      → AreOpen options f.nodes (ix ∷ rest) frames → AreOpen options kept.nodes f.spine frames
  kept_open options frames below o =
      subst (λ s. AreOpen options kept.nodes s frames) (sym spine) (open_below options f.nodes kept.nodes (length f.nodes) (ix ∷ rest) frames
      (λ i h. frame-append options (ended f.nodes ix.0 e) title_nodes i (inside i h) ∙ frame-ended options f.nodes ix.0 e i) below o)

  -- the nodes that can still become a derivation then
  kept_completes : (d : Document) (defined : Tables) (blanks run loose : Bool) (frames : List Frame) (p : Place) (lines left : List Place)
      → (o : OpensParagraph d (lvl (InDefinitions loose ∷ frames) (tail (DefinitionClosed e blanks) run)) p lines left (x ∷ items))
      → CompletesAt d defined (tail (DefinitionClosed e blanks) run) (InDefinitions loose ∷ frames) f.nodes (ix.0 ∷ map (λ (i : TreeIndex). i.0) rest)
      (Inside p) lines
      → CompletesAt d (with_definitions defined o.block.definitions) (tail (TitleAt e (length f.nodes)) o.block.gap) (InDefinitions loose ∷ frames) kept.nodes
      (map (λ (i : TreeIndex). i.0) f.spine) Line left
  kept_completes d defined blanks run loose frames p lines left o k =
      let os : List ℕ = map (λ (i : TreeIndex). i.0) rest in
      let here : List Frame = InDefinitions loose ∷ frames in
      let now : Tables = with_definitions defined o.block.definitions in
      let k' = completes-reended d (open_nodes defined frames f.nodes os) (tail (DefinitionClosed e blanks) run) loose ix.0 e (Inside p) lines tt k in
      let done = completes-possible_title d (open_nodes defined frames (ended f.nodes ix.0 e) os) (record { place = ix.0; «end» = e; loose = loose }) blanks
      run p lines left o.block o.begins o.opens k' in
      let deep : suc (suc (length os)) ≡ length f.spine + 1 =
      (let n = length-map rest (λ (i : TreeIndex). i.0) in let m = ap (λ (s : List TreeIndex). length s) spine in omega arith) in
      rw (spine, ← length-ended f.nodes ix.0 e) (subst (λ n. CompletesAt d now (tail (TitleAt e (length (ended f.nodes ix.0 e))) o.block.gap) here
      (ended f.nodes ix.0 e ++ (n + x.0, title_item) ∷ at_depth n items) (ix.0 ∷ os) Line left)
      (deep ∙ ap (λ (s : List TreeIndex). length s + 1) spine) (rw o.is at done))

-- a ready state with a possible title
module _ (d : Document) (defined : Tables) (r : PassState) (p : Place) (lines left : List Place) (block : LeafBlock) (x : ℕ × Item) (items : List (ℕ × Item))
    (is : block.items ≡ x ∷ items) (begins : begins_paragraph block.items ≡ true) (gap : block.gap ≡ false) (forest : IsForest r.tree)
    (b : IsAfterDefinition r.tree) (none : r.begin_list_item ≡ None) (shows : AreEachNode ShowsNothing items) where
  title_ready : Opens d (level_of d.options r.tree r.blank) p lines (OpensLeaf (Block block) Line left) → ReadyAt d defined r.tree r.blank (Inside p) lines
      → Ready d (with_definitions defined block.definitions) (title_begun (current_end r.tree) (with_tree r (added r.tree (x ∷ items)))) left
  title_ready opens ready =
      let f : Forest Item = r.tree in
      let e : ℕ = current_end f in
      let ix : TreeIndex = b.place in
      let rest : List TreeIndex = b.outer in
      let low = (subst (AreIn (length f.nodes)) b.spine (open_are_in f.nodes f.spine forest.opened)).0 in
      let last = after_last f b in
      let i = innermost_of d defined f r.blank (Inside p) lines ix rest b.spine ready in
      let def = definitions_frame d.options b.flags i.0 (subst (λ z. HasFrame d.options z i.0) b.body i.1) in
      let inner = subst (Innermost d defined f r.blank (Inside p) lines ix rest (closed_in f)) def.1 i.2 in
      let here : List Frame = InDefinitions def.0 ∷ inner.outer in
      let os : List ℕ = map (λ (i : TreeIndex). i.0) f.spine in
      let k = subst (λ z. CompletesAt d defined (tail z r.blank) here f.nodes (ix.0 ∷ map (λ (i : TreeIndex). i.0) rest) (Inside p) lines) last.1
      inner.completes in
      let opens' =
      subst (λ l. Opens d l p lines (OpensLeaf (Block block) Line left)) (inner.level ∙ ap (λ z. lvl here (tail z r.blank)) last.1) opens in
      let done = kept_completes f x items e ix rest b.spine low d defined last.0 r.blank def.0 inner.outer p lines left
      (record { block = block; is = is; begins = begins; opens = opens' }) k in
      let g : Forest Item = kept f x items e ix rest b.spine low in
      let closed : closed_in g ≡ TitleAt e (length f.nodes) = kept_closed f x items e ix rest b.spine low b.flags b.body in
      let now : ReadyAt d (with_definitions defined block.definitions) g false Line left = record {
        frames = here;
        are_open = kept_open f x items e ix rest b.spine low d.options here k.below inner.are_open;
        silent = subst (SilentClosed g.nodes) (sym closed) (kept_silent f x items e ix rest b.spine low shows);
        completes = subst (λ z. CompletesAt d (with_definitions defined block.definitions) (tail z false) here g.nodes os Line left) (sym closed)
            (subst (λ z. CompletesAt d (with_definitions defined block.definitions) (tail (TitleAt e (length f.nodes)) z) here g.nodes os Line left) gap done);
      } in
      subst (λ q. Ready d (with_definitions defined block.definitions) q left) (sym (kept_is f x items e ix rest b.spine low r))
      (ready_plain d (with_definitions defined block.definitions) (record r { tree = g; blank = false }) left none now)

module _ (d : Document) (defined : Tables) (r : PassState) (p q : Place) (next : ℕ) (xs : List LinkEntry) (items : List (ℕ × Item))
    (forest : IsForest r.tree)
    (kind : IsKind d.options p.rest Paragraph) (place : IsPlaceOf d.text q)
    (run : IsRun (context_of d.options r.tree) (unindented p) (lines_from d.text (line_end p)) xs (FlowsOn q (lines_from d.text (line_end q))))
    (text : IsTextAt d (path_of d.options r.tree) (offset q) None items next) (after : is_after_definition r.tree ≡ true)
    (none : r.begin_list_item ≡ None) where
  abbrev text_block : LeafBlock
  text_block = flowing_block q xs items

  text_opening : OpensAs d (path_of d.options r.tree) p (lines_from d.text (line_end p)) (kind_in (context_of d.options r.tree) p Paragraph)
      (OpensLeaf (Block text_block) Line (lines_from d.text next))
  text_opening = grind (arith, text_opens, opens_flow)

  kept_by : (first : ℕ × Item) (more : List (ℕ × Item)) → items ≡ first ∷ more → begins_paragraph items ≡ true
      → ReadyLeaf d defined r p (lines_from d.text (line_end p))
      → Ready d (with_definitions defined xs) (title_begun (current_end r.tree) (with_tree r (added r.tree (first ∷ more)))) (lines_from d.text next)
  kept_by first more is begins (inl (bare, no_start, ready)) =
      let lines : List Place = lines_from d.text (line_end p) in
      let left : List Place = lines_from d.text next in
      let holds = kind_holds ShowsNothing d (tokens_show d.names.texts) (path_of d.options r.tree) p lines _ _ text_opening in
      let shows : AreEachNode ShowsNothing more = subst (λ z. AreEachNode ShowsNothing (drop 1 z)) is (holds.0.tokens begins) in
      title_ready d defined r p lines left text_block first more is begins refl forest (past_definition r.tree after) none shows
      (no_container d r.tree r.blank p lines Paragraph (OpensLeaf (Block text_block) Line left) bare no_start kind text_opening) ready
  kept_by first more is begins (inr lazy) = let no_quote = sym (after_top r.tree (past_definition r.tree after)) ∙ lazy.quote in cc

  -- a paragraph is kept as a possible title
  pub ready_kept : begins_paragraph items ≡ true → ReadyLeaf d defined r p (lines_from d.text (line_end p))
      → Ready d (with_definitions defined xs) (title_begun (current_end r.tree) (with_tree r (added r.tree items))) (lines_from d.text next)
  ready_kept begins ready = grind (arith, text_flat, kept_by)

-- a heading or a table ends the list where its last definition ends
pub away_left : (r : PassState) (q : Place) (xs : List LinkEntry) (items : List (ℕ × Item)) (left : List Place) → is_after_definition r.tree ≡ true
    → begins_paragraph items ≡ false
    → EndsListAt (current_end r.tree) (top_body r.tree) (closed_in r.tree) (OpensLeaf (Block (flowing_block q xs items)) Line left)
away_left r q xs items left after other = grind (arith, past_definition, after_last, after_top)
