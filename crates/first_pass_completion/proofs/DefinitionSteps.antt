-- The steps of reading a definition list, in terms of what the nodes so far can still become.
use Rattle.std.proofs.Common.{◌≡◌, ℕ, suc, ◌+◌, ◌<◌, Bool, true, false, ◌||◌, List, ◌∷◌, ◌++◌, length, refl, sym, ap, subst, arith, length-append}
use Rattle.first_pass_grammar.proofs.Common.{Item, DefinitionListDefinition, at_depth, Place, in_quote, Document, LeafBlock, Block, Skeleton, Then}
use Rattle.first_pass_grammar.proofs.Common.{LastParagraph, LastDefinition, Before, begins_paragraph, after_block, before_end, Line, Inside, OpensLeaf}
use Rattle.first_pass_grammar.proofs.Common.{Opens, level, IsSequence, Opening, DefinitionsTo, gap_before, rows_of, definitions_first, with_definitions}
use Rattle.first_pass_grammar.proofs.Common.{node_of, items_of, definitions_of, footnotes_of, with_title, title_taken, ParagraphAt, DefinitionClosed}
use Rattle.first_pass_grammar.proofs.Common.{TitleAt, Pending, NoList, OneList, OneTitle, rendered, InContainer, InDefinitions, containers_of, AreBelow}
use Rattle.first_pass_grammar.proofs.Common.{IsPlain, with_labels, and-false}
use Rattle.first_pass_grammar.specs.declared.kind.Container.{Container}
use Rattle.first_pass_grammar.specs.declared.kind.Container.TheVariants.{Definition}
use Rattle.first_pass_completion.proofs.Completions.{fresh}
use Rattle.first_pass_completion.proofs.Extending.{stepped, tail, lvl, AreBelow-more, stands_after, opens_stays}
use Rattle.first_pass_completion.proofs.Extending.{first_here, told_leaf, AddsBlocks, OpensContainer, extend_same, container_stays}
use Rattle.first_pass_grammar.proofs.Sequences.Finishes.{Finish, CompletesAt}
use Rattle.first_pass_completion.proofs.FlatBlocks.{opened_own}
use Rattle.first_pass_completion.proofs.TitleNodes.{as_possible, length-with_title, length-taken}
use Rattle.first_pass_completion.proofs.Titles.{possible_title}
use Rattle.first_pass_completion.proofs.States.{CompletesFrom, DefinitionHead, IsStep, OpenDefinitions, OpenNodes, Reading, definition_head_of}
use Rattle.first_pass_completion.proofs.States.{reading, reading_at, with_inner, with_new}
use Rattle.first_pass_completion.proofs.ContainerSteps.{member_step}
use Rattle.first_pass_completion.proofs.JoinedNodes.{IsChild, child, joined}

-- the node of a definition
abbrev pub definition_node : ℕ → ℕ → ℕ → Item
definition_node start e columns = node_of start e (DefinitionListDefinition columns)

-- the open nodes after a definition is opened in the definition list at a place, with these nodes before it
abbrev pub definition_opened : OpenNodes → List (ℕ × Item) → ℕ → Bool → DefinitionHead → OpenNodes
definition_opened w nodes place loose m =
    with_new (with_inner (record w { nodes = nodes }) (InDefinitions loose) place) (InContainer (Definition m.columns))
    (definition_node m.start 0 m.columns)

-- a definition that is opened as a child of the list at a place
definition_step : (d : Document) (w : OpenNodes) (list : Pending) (before : Before) (nodes : List (ℕ × Item)) (place : ℕ) (loose : Bool)
    (m : DefinitionHead) (b : OpensContainer d (level (containers_of w.frames) before) (definition_head_of m))
    → IsChild w list before (child w place nodes (definition_head_of m) (DefinitionListDefinition m.columns)) (λ e. DefinitionsTo e) place loose
    → IsStep d (reading w list before (Inside b.place) b.lines)
    (reading_at (definition_opened w nodes place (loose || before.counted) m) fresh b.inside b.following)
unfolding Finish items_of rendered with_labels
definition_step d w list before nodes place loose m b is forest tables (kids, mid, inner, fin) =
    member_step d w list before (child w place nodes (definition_head_of m) (DefinitionListDefinition m.columns)) _ b kids mid
    (container_stays d _ (definition_head_of m) b refl) (joined w list before _ (DefinitionListDefinition m.columns) nodes (λ e. DefinitionsTo e) place loose
    (λ k e tight gap inner more. refl) refl is) inner forest tables fin

-- The first definition after a paragraph is opened. The paragraph becomes a title, and both are in a definition list
-- at the paragraph's place.
pub completes-first_definition : (d : Document) (w : OpenNodes) (run : Bool) (at : ℕ) (m : DefinitionHead)
    (b : OpensContainer d (lvl w.frames (tail (ParagraphAt at) run)) (definition_head_of m))
    → IsPlain w.frames → at < length w.nodes → AreBelow at w.places
    → CompletesFrom d w (tail (ParagraphAt at) run) (Inside b.place) b.lines
    → CompletesFrom d (definition_opened w (with_title w.nodes at) at run m) fresh b.inside b.following
unfolding items_of rows_of rendered definitions_first
completes-first_definition d w run at m b plain within below k =
    let titled : List (ℕ × Item) = with_title w.nodes at in
    let l : length (definition_opened w titled at run m).nodes ≡ length titled + 1 = length-append titled _ in
    let n : length titled ≡ suc (length w.nodes) = length-with_title w.nodes at within in
    stepped d _ _ _ _ _ _ _ _ k
    (definition_step d w (NoList (ParagraphAt at)) _ titled at false m b
    (record { plain = plain; within = omega arith; items = λ e last kids s. refl; gaps = λ e last kids s. refl }))
    ((omega arith, (omega arith, below)), (tt, (plain, k.shape)))

-- a definition is opened after a possible title, which becomes a title
pub completes-title_definition : (d : Document) (w : OpenNodes) (l : OpenDefinitions) (at : ℕ) (run : Bool) (m : DefinitionHead)
    (b : OpensContainer d (lvl (InDefinitions l.loose ∷ w.frames) (tail (TitleAt l.«end» at) run)) (definition_head_of m))
    → CompletesFrom d (with_inner w (InDefinitions l.loose) l.place) (tail (TitleAt l.«end» at) run) (Inside b.place) b.lines
    → CompletesFrom d (definition_opened w (title_taken w.nodes at) l.place (l.loose || run) m) fresh b.inside b.following
unfolding Finish items_of rows_of rendered definitions_first
completes-title_definition d w l at run m b k =
    let taken : List (ℕ × Item) = title_taken w.nodes at in
    let longer : length (definition_opened w taken l.place (l.loose || run) m).nodes ≡ length taken + 1 = length-append taken _ in
    let same : length taken ≡ length w.nodes = length-taken w.nodes at in
    let within : l.place < length w.nodes = k.below.0 in
    stepped d _ _ _ _ _ _ _ _ k
    (definition_step d w (OneTitle l.place at l.«end» l.loose) _ taken l.place l.loose m b
    (record { plain = k.shape.0; within = omega arith; items = λ e last kids s. refl; gaps = λ e last kids s. refl }))
    ((omega arith, (omega arith, k.below.1)), (tt, k.shape))

-- a definition is opened after a definition
pub completes-definition : (d : Document) (w : OpenNodes) (l : OpenDefinitions) (blanks run : Bool) (m : DefinitionHead)
    (b : OpensContainer d (lvl (InDefinitions l.loose ∷ w.frames) (tail (DefinitionClosed l.«end» blanks) run)) (definition_head_of m))
    → CompletesFrom d (with_inner w (InDefinitions l.loose) l.place) (tail (DefinitionClosed l.«end» blanks) run) (Inside b.place) b.lines
    → CompletesFrom d (definition_opened w w.nodes l.place (l.loose || run) m) fresh b.inside b.following
unfolding Finish items_of rows_of rendered definitions_first
completes-definition d w l blanks run m b k =
    let longer : length (definition_opened w w.nodes l.place (l.loose || run) m).nodes ≡ length w.nodes + 1 = length-append w.nodes _ in
    stepped d _ _ _ _ _ _ _ _ k
    (definition_step d w (OneList l.place (DefinitionsTo l.«end») l.loose) _ w.nodes l.place l.loose m b
    (record { plain = k.shape.0; within = k.below.0; items = λ e last kids s. refl; gaps = λ e last kids s. refl }))
    ((omega arith, k.below), (tt, k.shape))

title_gap : (b : LeafBlock) (blanks run : Bool) → begins_paragraph b.items ≡ true
    → (gap_before (stands_after (LastDefinition blanks) run) b ≡ false)
    × (after_block (stands_after (LastDefinition blanks) run) b ≡ stands_after (LastParagraph true) b.gap)
title_gap b blanks run begins = (rw begins (and-false run), rw begins refl)

-- after a paragraph directly after a definition, which may be the next title of its list
pub completes-possible_title : (d : Document) (w : OpenNodes) (l : OpenDefinitions) (blanks run : Bool) (p : Place) (lines left : List Place) (b : LeafBlock)
    → begins_paragraph b.items ≡ true
    → Opens d (lvl (InDefinitions l.loose ∷ w.frames) (tail (DefinitionClosed l.«end» blanks) run)) p lines (OpensLeaf (Block b) Line left)
    → CompletesFrom d (with_inner w (InDefinitions l.loose) l.place) (tail (DefinitionClosed l.«end» blanks) run) (Inside p) lines
    → CompletesAt d (with_definitions w.defined b.definitions) (tail (TitleAt l.«end» (length w.nodes)) b.gap) (InDefinitions l.loose ∷ w.frames)
    (w.nodes ++ at_depth (suc (suc (length w.places))) (as_possible b.items)) (l.place ∷ w.places) Line left
unfolding Finish IsSequence rows_of before_end rendered definitions_of footnotes_of
completes-possible_title d w l blanks run p lines left b begins opens c =
    let k : ℕ = suc (length w.places) in
    let path : List Container = containers_of w.frames in
    let q : Bool = in_quote path in
    let before : Before = stands_after (LastDefinition blanks) run in
    let now : Before = stands_after (LastParagraph true) b.gap in
    let list : Pending = OneList l.place (DefinitionsTo l.«end») l.loose in
    let more : List (ℕ × Item) = at_depth (suc k) (as_possible b.items) in
    let opening : Opening = OpensLeaf (Block b) Line left in
    let first = first_here d (level path before) p lines opening (opens_stays d (level path before) p lines opening refl opens) opens in
    let flat = opened_own d (level path before) (Inside p) lines b Line left tt first in
    let (no_gap, stands) = title_gap b blanks run begins in
    let title = λ (last : ℕ) (s : Skeleton).
    possible_title k last w.nodes l b (rows_of q now last s) (record { begins = begins; flat = flat.0; own = flat.1 }) c.below.0 in
    let next : Reading =
    reading (record w { defined = with_definitions w.defined b.definitions; nodes = w.nodes ++ more }) (OneTitle l.place (length w.nodes) l.«end» l.loose)
    now Line left in
    let adds : AddsBlocks d (reading w list before (Inside p) lines) next false (λ s. Then (Block b) s) = record {
      plain = c.shape.0;
      ends = λ path mid. refl;
      adds = λ s mid seq. record {
        seq = (Line, left, first, subst (λ z. IsSequence d s (level path z) Line left mid) (sym stands) seq);
        items = λ last is. rw (no_gap, stands) (title last s).0;
        counts = ap (λ z. (before_end q z s).counted) stands;
        gaps = λ last. rw (no_gap, stands) (title last s).1;
      };
      defines = λ s. told_leaf w.defined b s;
    } in
    stepped d _ _ _ _ _ _ _ _ c (extend_same d (reading w list before (Inside p) lines) next (λ s. Then (Block b) s) adds)
    (AreBelow-more _ _ (l.place ∷ w.places) (let n = length-append w.nodes more in omega arith) c.below, c.shape)
