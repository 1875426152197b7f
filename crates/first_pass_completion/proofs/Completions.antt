-- Each step of reading a text, in terms of what the nodes so far can still become.
use Rattle.std.proofs.Common.{◌≡◌, ℕ, suc, ◌+◌, ◌<◌, Bool, true, false, not, ◌||◌, List, [], ◌∷◌, ◌++◌, length, Option, Some, None, refl, sym, ap, ◌∙◌, subst}
use Rattle.std.proofs.Common.{arith, length-append, if◌then◌else◌, append-nil, is_some}
use Rattle.first_pass_grammar.proofs.Common.{or-true, Item, Place, offset, lines_at, taken, is_quote, in_quote, footnote_head_at, Document, around, LeafBlock}
use Rattle.first_pass_grammar.proofs.Common.{BlankLine, Block, block_at, Nil, Then, Skeleton, LastOther, LastParagraph, Before, list_is_open, after_blank}
use Rattle.first_pass_grammar.proofs.Common.{after_block, is_paragraph_body, begins_paragraph, is_run, before_end, Continues, Line, Inside, Blanks, AtPlace}
use Rattle.first_pass_grammar.proofs.Common.{TextOf, OnlyMark, after_marker, Opening, OpensLeaf, OpensText, Opens, level, Remaining, InLine, Ends}
use Rattle.first_pass_grammar.proofs.Common.{ends_old_footnote, next_block, onward, after_first, end_of_left, end_before, IsFirst, IsSequence, unindented}
use Rattle.first_pass_grammar.proofs.Common.{is_blank_rest, ItemsOf, any_gap, rows_of, End, definitions_first, with_links, with_labels, Tables, Derives}
use Rattle.first_pass_grammar.proofs.Common.{no_tables, with_definitions, definitions_of, footnotes_of, root_of, block_items, items_of, ended, Closed}
use Rattle.first_pass_grammar.proofs.Common.{OtherClosed, ParagraphAt, Pending, NoList, OneList, rendered, Frame, InContainer, InList, InDefinitions}
use Rattle.first_pass_grammar.proofs.Common.{closed_as, definitions_open, containers_of, loosened, IsPlain, last_plain, StandsIn, last_of, IsShaped}
use Rattle.first_pass_grammar.specs.declared.kind.Container.{Container}
use Rattle.first_pass_grammar.specs.declared.kind.Container.TheVariants.{BlockQuote, ListItem, FootnoteDefinition, Definition}
use Rattle.first_pass_grammar.specs.Before.{last_container, last_after_run, last_block}
use Rattle.first_pass_grammar.specs.Kinds.{Paragraph}
use Rattle.first_pass_grammar.proofs.Sequences.Finishes.{Finish, Tail, before_of, CompletesAt, finish_derives, completes_by}
use Rattle.first_pass_grammar.proofs.Sequences.Goings.{ends_inside, begins_blank}
use Rattle.first_pass_completion.proofs.FlatBlocks.{OwnFrom, opened_own}
use Rattle.first_pass_completion.proofs.Titles.{closed_after, beside_all, leaf_added}
use Rattle.first_pass_completion.proofs.Extending.{stepped, tail, lvl, finish_moved, AreBelow-more, length-ended, loosened-false, plain_last, stands_after}
use Rattle.first_pass_completion.proofs.Extending.{EndsAlike, told_leaf, enter_step, opens_stays, first_here, extend_same}
use Rattle.first_pass_completion.proofs.States.{CompletesFrom, IsCompleted, IsStep, OpenNodes, Reading, open_nodes, reading, reading_at, with_inner}

-- no last child, and no blank lines
abbrev pub fresh : Tail
fresh = tail OtherClosed false

last_by : (place : ℕ) (closed : Closed) (t u : Bool)
    → last_plain (if t then ParagraphAt place else (if u then closed else OtherClosed))
    ≡ (if t then LastParagraph false else (if u then last_after_run (last_plain closed) else LastOther))
last_by place closed true u = refl
last_by place closed false false = refl
last_by place OtherClosed false true = refl
last_by place closed false true = refl

plain_block : (closed : Closed) (b : LeafBlock)
    → last_block b (last_plain closed)
    ≡ (if begins_paragraph b.items then LastParagraph false else (if is_run b.kind then last_after_run (last_plain closed) else LastOther))
plain_block OtherClosed b = refl
plain_block closed b = refl

leaf_last : (place : ℕ) (closed : Closed) (frames : List Frame) (b : LeafBlock) → IsPlain frames
    → last_of frames (closed_after place b closed) ≡ last_block b (last_of frames closed)
leaf_last place closed frames b plain = grind (arith, plain_last, closed_after, last_by, plain_block)

-- the open nodes after a leaf block
abbrev pub with_leaf : OpenNodes → LeafBlock → OpenNodes
with_leaf w b = record w { defined = with_definitions w.defined b.definitions; nodes = w.nodes ++ block_items (suc (length w.places)) false b }

-- a blank line in a state with a list that may continue
blank_step : (d : Document) (w : OpenNodes) (list : Pending) (before : Before) (from : Continues) (lines left : List Place)
    → IsPlain w.frames → EndsAlike (length d.text) from (after_first from Line)
    → IsFirst d (level (containers_of w.frames) before) from lines (OpensLeaf BlankLine Line left)
    → IsStep d (reading w list before from lines)
    (reading w list (after_blank (in_quote (containers_of w.frames)) before) (after_first from Line) left)
unfolding IsSequence rows_of before_end definitions_of footnotes_of
blank_step d w list before from lines left plain alike first =
    let now : Before = after_blank (in_quote (containers_of w.frames)) before in
    extend_same d (reading w list before from lines) (reading w list now (after_first from Line) left) (λ s. Then BlankLine s) (record {
      plain = plain;
      ends = alike;
      adds = λ s mid seq. record { seq = (Line, left, first, seq); items = λ last is. refl; counts = refl; gaps = λ last. refl };
      defines = λ s. refl;
    })

-- before the first line
pub completes-first : (d : Document) → CompletesAt d no_tables fresh [] (root_of (length d.text) ∷ []) [] Line (lines_at 0 d.text)
unfolding Finish rendered
completes-first d =
    completes_by d _ _ _ _ _ tt tt (λ forest tables fin. record { skeleton = fin.0; sequence = fin.1; forest_is = fin.2; tables_are = fin.3 })

-- inside a line that continues the whole path
pub completes-enter : (d : Document) (defined : Tables) (t : Tail) (frames : List Frame) (nodes : List (ℕ × Item)) (os : List ℕ) (line q : Place)
    (lines : List Place)
    → taken (containers_of frames) line ≡ Some q → ends_old_footnote (lvl frames t) ≡ false
    → CompletesAt d defined t frames nodes os Line (line ∷ lines) → CompletesAt d defined t frames nodes os (Inside q) lines
completes-enter d defined t frames nodes os line q lines is old c =
    stepped d _ _ _ _ _ _ _ _ c (enter_step d defined frames (NoList t.closed) (before_of frames t) nodes os line q lines is old) (c.below, c.shape)

-- after a leaf block, wherever it begins
pub completes-leaf : (d : Document) (w : OpenNodes) (closed : Closed) (from : Continues) (lines left : List Place) (b : LeafBlock)
    → IsPlain w.frames → EndsAlike (length d.text) from (after_first from Line) → OwnFrom from
    → IsFirst d (lvl w.frames (tail closed false)) from lines (OpensLeaf (Block b) Line left)
    → CompletesFrom d w (tail closed false) from lines
    → CompletesFrom d (with_leaf w b) (tail (closed_after (length w.nodes) b closed) b.gap) (after_first from Line) left
unfolding IsSequence rows_of before_end definitions_of footnotes_of
completes-leaf d w closed from lines left b plain alike flat first c =
    let own = opened_own d (lvl w.frames (tail closed false)) from lines b Line left flat first in
    let before : Before = before_of w.frames (tail closed false) in
    let added = λ (last : ℕ) (s : Skeleton).
    leaf_added (suc (length w.places)) last w.nodes closed b false (rows_of (in_quote (containers_of w.frames)) (after_block before b) last s) own in
    let next : Reading =
    reading (with_leaf w b) (NoList (closed_after (length w.nodes) b closed)) (after_block before b) (after_first from Line) left in
    stepped d _ _ _ _ _ _ _ _ c (λ forest tables fin.
    extend_same d (reading_at w (tail closed false) from lines) next (λ s. Then (Block b) s) (record {
      plain = plain;
      ends = alike;
      adds = λ s mid seq. record { seq = (Line, left, first, seq); items = λ last is. (added last s).0; counts = refl; gaps = λ last. (added last s).1 };
      defines = λ s. told_leaf w.defined b s;
    }) forest tables
    (subst (λ z. IsCompleted d (record next { before = z }) forest tables)
    (ap (λ z. stands_after z b.gap) (leaf_last (length w.nodes) closed w.frames b plain)) fin))
    (AreBelow-more _ _ w.places (let k = length-append w.nodes (block_items (suc (length w.places)) false b) in omega arith) c.below, c.shape)

-- after a leaf block that begins inside a line
pub completes-block : (d : Document) (w : OpenNodes) (closed : Closed) (p : Place) (lines left : List Place) (b : LeafBlock)
    → IsPlain w.frames → Opens d (lvl w.frames (tail closed false)) p lines (OpensLeaf (Block b) Line left)
    → CompletesFrom d w (tail closed false) (Inside p) lines
    → CompletesFrom d (with_leaf w b) (tail (closed_after (length w.nodes) b closed) b.gap) Line left
completes-block d w closed p lines left b plain opens c =
    let l = lvl w.frames (tail closed false) in
    let leaf : Opening = OpensLeaf (Block b) Line left in
    completes-leaf d w closed (Inside p) lines left b plain (λ path mid. refl) tt
    (first_here d l p lines leaf (opens_stays d l p lines leaf refl opens) opens) c

-- after the text of a task list item marker
pub completes-text : (d : Document) (w : OpenNodes) (closed : Closed) (marker : Item) (p : Place) (lines left : List Place) (b : LeafBlock)
    → IsPlain w.frames → is_paragraph_body marker.body ≡ false
    → OpensText d (containers_of w.frames) p lines (Some marker) (OpensLeaf (Block b) Line left)
    → CompletesFrom d w (tail closed false) (AtPlace p (TextOf marker)) lines
    → CompletesFrom d (with_leaf w b) (tail (closed_after (length w.nodes) b closed) b.gap) Line left
unfolding next_block
completes-text d w closed marker p lines left b plain other opens c =
    completes-leaf d w closed (AtPlace p (TextOf marker)) lines left b plain (λ path mid. refl) other
    (record { place = p; following = lines; begins = refl; opens = opens }) c

mark_alike : (n : ℕ) (blanks : Option ℕ) (path : List Container) (mid : Remaining) → end_of_left n path blanks mid ≡ end_before n path (after_marker blanks) mid
mark_alike n None path mid = refl
mark_alike n (Some e) path mid = refl

-- after a task list item marker with nothing after it on its line
pub completes-mark : (d : Document) (w : OpenNodes) (closed : Closed) (marker : Item) (p : Place) (blanks : Option ℕ) (lines : List Place)
    → IsPlain w.frames → is_paragraph_body marker.body ≡ false
    → CompletesFrom d w (tail closed false) (AtPlace p (OnlyMark marker blanks)) lines
    → CompletesFrom d (record w { nodes = w.nodes ++ (suc (length w.places), marker) ∷ [] }) fresh (after_marker blanks) lines
unfolding with_links next_block
completes-mark d w closed marker p blanks lines plain other c =
    let deep : suc (length w.places) + 0 ≡ suc (length w.places) = omega arith in
    let b : LeafBlock = block_at Paragraph p ((0, marker) ∷ []) false in
    let now : ℕ → OpenNodes = λ depth. record w { nodes = w.nodes ++ (depth, marker) ∷ [] } in
    let last : closed_after (length w.nodes) b closed ≡ OtherClosed =
    ap (λ (t : Bool). if t then ParagraphAt (length w.nodes) else OtherClosed) other in
    subst (λ z. CompletesFrom d (now (suc (length w.places))) (tail z false) (after_marker blanks) lines) last
    (subst (λ depth. CompletesFrom d (now depth) (tail (closed_after (length w.nodes) b closed) false) (after_marker blanks) lines) deep
    (completes-leaf d w closed (AtPlace p (OnlyMark marker blanks)) lines lines b plain (mark_alike (length d.text) blanks) other
    (record { place = p; following = lines; begins = refl; opens = refl }) c))

-- whether the blank lines after open nodes include a counting one, after one more blank line
abbrev pub counted_after : List Frame → Tail → Bool
counted_after frames t = t.run || (not (in_quote (containers_of frames)) || list_is_open (last_of frames t.closed))

-- the end of open nodes after one more blank line
abbrev pub after_blank_line : List Frame → Tail → Tail
after_blank_line frames t = tail t.closed (counted_after frames t)

-- a blank line, whether a list is innermost or not
blank_any : (d : Document) (defined : Tables) (frames : List Frame) (t : Tail) (nodes : List (ℕ × Item)) (os : List ℕ) (from : Continues)
    (lines left : List Place)
    → IsShaped frames → EndsAlike (length d.text) from (after_first from Line)
    → IsFirst d (lvl frames t) from lines (OpensLeaf BlankLine Line left)
    → (let w : OpenNodes = open_nodes defined frames nodes os in
    IsStep d (reading_at w t from lines) (reading_at w (after_blank_line frames t) (after_first from Line) left))
unfolding Finish
blank_any d defined (InList byte loose ∷ frames) t nodes [] from lines left shape alike first = λ forest tables fin. fin
blank_any d defined (InDefinitions loose ∷ frames) t nodes [] from lines left shape alike first = λ forest tables fin. fin
blank_any d defined (InList byte loose ∷ frames) t nodes (o ∷ os) from lines left shape alike first =
    blank_step d (open_nodes defined frames nodes os) (OneList o (ItemsOf byte) loose) (before_of (InList byte loose ∷ frames) t) from lines left
    shape.0 alike first
blank_any d defined (InDefinitions loose ∷ frames) t nodes (o ∷ os) from lines left shape alike first =
    blank_step d (open_nodes defined frames nodes os) (definitions_open o loose (NoList t.closed)) (before_of (InDefinitions loose ∷ frames) t)
    from lines left shape.0 alike first
blank_any d defined frames t nodes os from lines left shape alike first = search blank_step

-- after a blank line, wherever it begins
pub completes-blank : (d : Document) (defined : Tables) (t : Tail) (frames : List Frame) (nodes : List (ℕ × Item)) (os : List ℕ) (from : Continues)
    (lines left : List Place)
    → EndsAlike (length d.text) from (after_first from Line) → IsFirst d (lvl frames t) from lines (OpensLeaf BlankLine Line left)
    → CompletesAt d defined t frames nodes os from lines → CompletesAt d defined (after_blank_line frames t) frames nodes os (after_first from Line) left
completes-blank d defined t frames nodes os from lines left alike first c =
    stepped d _ _ _ _ _ _ _ _ c (blank_any d defined frames t nodes os from lines left c.shape alike first) (c.below, c.shape)

-- after a blank line that begins inside a line
pub completes-blank_line : (d : Document) (defined : Tables) (t : Tail) (frames : List Frame) (nodes : List (ℕ × Item)) (os : List ℕ) (p : Place)
    (lines left : List Place)
    → Opens d (lvl frames t) p lines (OpensLeaf BlankLine Line left)
    → CompletesAt d defined t frames nodes os (Inside p) lines → CompletesAt d defined (after_blank_line frames t) frames nodes os Line left
completes-blank_line d defined t frames nodes os p lines left opens c =
    let leaf : Opening = OpensLeaf BlankLine Line left in
    completes-blank d defined t frames nodes os (Inside p) lines left (λ path mid. refl)
    (first_here d (lvl frames t) p lines leaf (opens_stays d (lvl frames t) p lines leaf refl opens) opens) c

-- a line that continues these containers and is blank after their markers, at this place
pub record BlankIn (path : List Container) (line p : Place) : Type 0 where
  pub continues : taken path line ≡ Some p
  pub blank : is_blank_rest p.rest ≡ true

-- after a blank line in a container that takes only blank lines, and is no block quote
pub completes-only_blank : (d : Document) (w : OpenNodes) (t : Tail) (c : Container) (e : ℕ) (line p : Place) (lines : List Place)
    → is_quote c ≡ false → BlankIn (c ∷ containers_of w.frames) line p
    → Opens d (lvl (InContainer c ∷ w.frames) t) p lines (OpensLeaf BlankLine Line lines)
    → CompletesAt d w.defined t (InContainer c ∷ w.frames) w.nodes w.places (Blanks e) (line ∷ lines)
    → CompletesAt d w.defined (tail t.closed true) (InContainer c ∷ w.frames) w.nodes w.places (Blanks e) lines
completes-only_blank d w t c e line p lines other blank opens k =
    let here : List Frame = InContainer c ∷ w.frames in
    let counts : counted_after here t ≡ true =
    ap (λ (z : Bool). t.run || (not z || list_is_open (last_plain t.closed))) other ∙ or-true t.run in
    subst (λ z. CompletesAt d w.defined (tail t.closed z) here w.nodes w.places (Blanks e) lines) counts
    (completes-blank d w.defined t here w.nodes w.places (Blanks e) (line ∷ lines) lines (λ path mid. refl) (record {
      place = p;
      following = lines;
      begins = begins_blank d.options (lvl here t) e line p lines blank.continues blank.blank;
      opens = opens;
    }) k)

-- At the end of the text, if nothing is open, the nodes are the forest.
pub completes-end : (d : Document) (defined : Tables) (t : Tail) (nodes : List (ℕ × Item))
    → CompletesAt d defined t [] nodes [] Line [] → Derives d nodes defined
unfolding Finish IsSequence next_block rows_of items_of definitions_first definitions_of footnotes_of with_links with_labels
completes-end d defined t nodes c =
    finish_derives _ _ _ _ _ _ _ _ c nodes defined
    (Nil, refl, sym ((beside_all 1 (length d.text) nodes t.closed End refl).0 ∙ append-nil nodes), refl)

-- the last block after a container
closed_last : (c : Container) (frames : List Frame) (e : ℕ) → StandsIn c frames → last_of frames (closed_as c e) ≡ last_container c
closed_last (BlockQuote kind) frames e stands = plain_last OtherClosed frames stands
closed_last (FootnoteDefinition columns) frames e stands = plain_last OtherClosed frames stands
closed_last (ListItem columns) (InList byte loose ∷ frames) e stands = refl
closed_last (Definition columns) (InDefinitions loose ∷ frames) e stands = refl
closed_last c frames e stands = absurd stands

-- the innermost container is closed
pub completes-pop : (d : Document) (w : OpenNodes) (t : Tail) (c : Container) (o : ℕ) (from : Continues) (lines : List Place) (left : Remaining)
    → next_block d.options (lvl (InContainer c ∷ w.frames) t) from lines ≡ Ends left
    → CompletesFrom d (with_inner w (InContainer c) o) t from lines
    → (let e : ℕ = end_before (length d.text) (containers_of w.frames) from left in
    CompletesFrom d (record w { nodes = ended w.nodes o e }) (tail (closed_as c e) t.run) (onward left).0 (onward left).1)
unfolding Finish IsSequence items_of rows_of before_end any_gap definitions_first definitions_of footnotes_of with_links with_labels
completes-pop d w t c o from lines left ends k =
    let e : ℕ = end_before (length d.text) (containers_of w.frames) from left in
    let l : length (ended w.nodes o e) ≡ length w.nodes = length-ended w.nodes o e in
    let within : o < length w.nodes = k.below.0 in
    let none = beside_all (suc (length (o ∷ w.places))) e w.nodes t.closed End refl in
    stepped d _ _ _ _ _ _ _ _ k (λ forest tables fin. (
      Nil,
      left,
      ends,
      finish_moved d (reading_at (record w { nodes = ended w.nodes o e }) (tail (closed_as c e) t.run) (onward left).0 (onward left).1) _ _ _
          (ap (λ z. stands_after z t.run) (closed_last c w.frames e k.shape.0))
          (sym (ap (λ z. loosened (any_gap z) w.frames) none.1 ∙ loosened-false w.frames))
          (ap (λ z. ended z o e) (sym (none.0 ∙ append-nil w.nodes))) forest tables fin,
    )) (AreBelow-more o _ w.places (omega arith) k.below.1, k.shape.1)

-- an innermost footnote definition is closed where another one begins
pub completes-pop_in_line : (d : Document) (w : OpenNodes) (t : Tail) (columns o : ℕ) (p : Place) (lines : List Place) (head : ℕ × List ℕ)
    → footnote_head_at (around d (FootnoteDefinition columns ∷ containers_of w.frames)) p ≡ Some head
    → CompletesFrom d (with_inner w (InContainer (FootnoteDefinition columns)) o) t (Inside p) lines
    → CompletesFrom d (record w { nodes = ended w.nodes o (offset (unindented p)) }) (tail OtherClosed t.run) (Inside p) lines
completes-pop_in_line d w t columns o p lines head is k =
    let c : Container = FootnoteDefinition columns in
    completes-pop d w t c o (Inside p) lines (InLine p lines)
    (ends_inside d.options (lvl (InContainer c ∷ w.frames) t) p lines (ap (λ z. is_some z) is)) k
