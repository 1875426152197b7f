-- A gap that is noted before a block makes the list around it loose.
use Rattle.std.proofs.Common.{◌≡◌, ℕ, suc, Bool, true, false, not, ◌||◌, ◌&&◌, List, [], ◌∷◌, ◌++◌, length, None, refl, sym, ap, ◌∙◌, subst, true≢false}
use Rattle.first_pass_grammar.proofs.Common.{Item, in_quote, Document, LeafBlock, Block, Head, Opener, QuoteMarker, DefinitionMarker, Skeleton, Then, Node}
use Rattle.first_pass_grammar.proofs.Common.{Before, begins_paragraph, after_block, Inside, Opens, level, Continues, Rows, any_gap, row_of, gap_before}
use Rattle.first_pass_grammar.proofs.Common.{container_row, definitions_first, rows_of, items_of, Closed, OtherClosed, NoList, rows_beyond, rendered, Frame}
use Rattle.first_pass_grammar.proofs.Common.{InContainer, InList, InDefinitions, containers_of, loosened, IsPlain, last_plain, StandsIn, IsShaped}
use Rattle.first_pass_grammar.specs.declared.kind.Container.{Container}
use Rattle.first_pass_grammar.specs.declared.kind.Container.TheVariants.{BlockQuote, ListItem, FootnoteDefinition, Definition}
use Rattle.first_pass_grammar.specs.Before.{is_after_definition}
use Rattle.first_pass_completion.proofs.Extending.{stepped, tail, lvl, loosened_in, stands_after, plain_before, extend, OpensAtPlace, plain_loosened}
use Rattle.first_pass_grammar.proofs.Sequences.Finishes.{Tail, before_of}
use Rattle.first_pass_completion.proofs.FlatBlocks.{FlatBlock, OwnParagraph}
use Rattle.first_pass_completion.proofs.Moved.{is_definition, opens_definition, OpensAlike, takes_alike, SameAfter, seq_moved, counts_moved, known_first}
use Rattle.first_pass_completion.proofs.Moved.{OpensBlock, FirstIsOther, first_is_other}
use Rattle.first_pass_completion.proofs.Titles.{beside_all, leaf_added}
use Rattle.first_pass_completion.proofs.States.{CompletesFrom, IsCompleted, IsStep, OpenNodes, reading, reading_at}

-- if no list is innermost, the last block is no definition
no_definition : (closed : Closed) → is_after_definition (last_plain closed) ≡ false
no_definition OtherClosed = refl
no_definition closed = refl

run_by : (run begins follows : Bool) → follows ≡ false → (run && not (begins && follows)) ≡ run
run_by false begins follows is_false = refl
run_by true false follows is_false = refl
run_by true true follows is_false = ap not is_false

-- for a sequence that begins with a block, blank lines before it matter only as the gap of that block
record IsNoted (quoted run : Bool) (closed : Closed) (blocks : Skeleton) : Type 0 where
  pub items : (depth last : ℕ) (nodes : List (ℕ × Item))
      → rendered depth last nodes (NoList closed) (rows_of quoted (stands_after (last_plain closed) run) last blocks)
      ≡ rendered depth last nodes (NoList closed) (rows_of quoted (stands_after (last_plain closed) false) last blocks)
  pub gaps : (last : ℕ) → any_gap (rows_beyond (NoList closed) (rows_of quoted (stands_after (last_plain closed) run) last blocks))
      ≡ (run || any_gap (rows_beyond (NoList closed) (rows_of quoted (stands_after (last_plain closed) false) last blocks)))

leaf_noted : (quoted run : Bool) (closed : Closed) (leaf : LeafBlock) (next : Skeleton) → FlatBlock leaf × OwnParagraph leaf
    → IsNoted quoted run closed (Then (Block leaf) next)
unfolding rows_of
leaf_noted quoted run closed leaf next own =
    let before : Before = stands_after (last_plain closed) run in
    let rows : ℕ → Rows = λ last. rows_of quoted (after_block before leaf) last next in
    let added = λ (noted : Bool) (depth last : ℕ) (nodes : List (ℕ × Item)). leaf_added depth last nodes closed leaf noted (rows last) own in
    let gap : gap_before before leaf ≡ run = run_by run (begins_paragraph leaf.items) (is_after_definition (last_plain closed)) (no_definition closed) in
    record {
      items = λ depth last nodes. rw gap ((added run depth last nodes).0 ∙ sym (added false depth last nodes).0);
      gaps = λ last. rw gap ((added run 0 last []).1 ∙ ap (λ later. run || later) (sym (added false 0 last []).1));
    }

container_noted : (opener : Opener) (line start stop last : ℕ) (run : Bool) (inner next : Rows)
    → (let rows : Bool → Rows = λ gap. container_row last opener (row_of (record { opener = opener; line = line; start = start }) stop gap) inner next in
    ((depth : ℕ) → items_of depth false (rows run) ≡ items_of depth false (rows false)) × (any_gap (rows run) ≡ (run || any_gap (rows false))))
unfolding items_of any_gap
container_noted (QuoteMarker kind) line start stop last run inner next = (λ depth. refl, refl)
container_noted opener line start stop last run inner next = (λ depth. refl, refl)

container_apart : (last : ℕ) (opener : Opener) (line start stop : ℕ) (gap : Bool) (inner next : Rows) → is_definition opener ≡ false
    → definitions_first (container_row last opener (row_of (record { opener = opener; line = line; start = start }) stop gap) inner next) ≡ None
unfolding definitions_first
container_apart last (DefinitionMarker columns) line start stop gap inner next other = absurd (true≢false other)
container_apart last opener line start stop gap inner next other = refl

node_noted : (quoted run : Bool) (closed : Closed) (head : Head) (stop : ℕ) (kids next : Skeleton) → is_definition head.opener ≡ false
    → IsNoted quoted run closed (Node head stop kids next)
unfolding rows_of
node_noted quoted run closed head stop kids next other =
    let all : Bool → ℕ → Rows = λ gap last. rows_of quoted (stands_after (last_plain closed) gap) last (Node head stop kids next) in
    let none = λ (gap : Bool) (depth last : ℕ) (nodes : List (ℕ × Item)).
    beside_all depth last nodes closed (all gap last) (container_apart last head.opener head.line head.start stop gap _ _ other) in
    record {
      items = λ depth last nodes. (none run depth last nodes).0
          ∙ ap (λ added. nodes ++ added) ((container_noted head.opener head.line head.start stop last run _ _).0 depth)
          ∙ sym (none false depth last nodes).0;
      gaps = λ last. ap any_gap (none run 0 last []).1
          ∙ (container_noted head.opener head.line head.start stop last run _ _).1
          ∙ ap (λ added. run || any_gap added) (sym (none false 0 last []).1);
    }

is_noted : (quoted run : Bool) (closed : Closed) (blocks : Skeleton) → FirstIsOther blocks
    → IsNoted quoted run closed blocks × SameAfter (stands_after (last_plain closed) run) (stands_after (last_plain closed) false) blocks
is_noted quoted run closed (Then (Block leaf) next) other = (leaf_noted quoted run closed leaf next other, refl)
is_noted quoted run closed (Node head stop kids next) other = (node_noted quoted run closed head stop kids next other, tt)
is_noted quoted run closed blocks other = absurd other

plain_in : (gap : Bool) (frames : List Frame) → IsPlain frames → IsPlain (loosened_in gap frames)
plain_in gap (InContainer c ∷ frames) plain = plain
plain_in gap frames plain = plain

plain-loosened : (gap : Bool) (frames : List Frame) → IsPlain frames → IsPlain (loosened gap frames)
plain-loosened gap frames plain = subst IsPlain (sym (plain_loosened gap frames plain)) plain

stands-loosened : (gap : Bool) (container : Container) (frames : List Frame) → StandsIn container frames → StandsIn container (loosened gap frames)
stands-loosened gap (BlockQuote kind) frames stands = plain-loosened gap frames stands
stands-loosened gap (FootnoteDefinition columns) frames stands = plain-loosened gap frames stands
stands-loosened gap (ListItem columns) (InDefinitions loose ∷ frames) stands = absurd stands
stands-loosened gap (Definition columns) (InList byte loose ∷ frames) stands = absurd stands
stands-loosened gap container frames stands = stands

shaped-loosened : (gap : Bool) (frames : List Frame) → IsShaped frames → IsShaped (loosened gap frames)
shaped-loosened gap (InContainer container ∷ frames) shaped = shaped
shaped-loosened gap frames shaped = shaped

shaped-loosened_in : (gap : Bool) (frames : List Frame) → IsShaped frames → IsShaped (loosened_in gap frames)
shaped-loosened_in gap [] shaped = shaped
shaped-loosened_in gap (InContainer container ∷ frames) shaped = (stands-loosened gap container frames shaped.0, shaped-loosened gap frames shaped.1)
shaped-loosened_in gap (InList byte loose ∷ frames) shaped = (plain-loosened gap frames shaped.0, shaped-loosened gap frames shaped.1)
shaped-loosened_in gap (InDefinitions loose ∷ frames) shaped = (plain-loosened gap frames shaped.0, shaped-loosened gap frames shaped.1)

-- a gap that is noted before a block that is no definition
note_step : (document : Document) (opened : OpenNodes) (ending : Tail) (block : OpensAtPlace document (lvl opened.frames ending))
    → IsPlain opened.frames → OpensBlock block.opening → opens_definition block.opening ≡ false
    → IsStep document (reading_at opened ending (Inside block.place) block.lines)
    (reading_at (record opened { frames = loosened_in ending.run opened.frames }) (tail ending.closed false) (Inside block.place) block.lines)
note_step document opened ending block plain is_block other forest tables fin =
    let path : List Container = containers_of opened.frames in
    let quoted : Bool = in_quote path in
    let here : Before = stands_after (last_plain ending.closed) ending.run in
    let now : Before = stands_after (last_plain ending.closed) false in
    let inside : Continues = Inside block.place in
    let stands : before_of opened.frames ending ≡ here = plain_before ending opened.frames plain in
    let opens : Opens document (level path here) block.place block.lines block.opening =
    subst (λ before. Opens document (level path before) block.place block.lines block.opening) stands block.opens in
    let alike : OpensAlike document path here now block.place = takes_alike document path here now block.place refl in
    let loosened : OpenNodes = record opened { frames = loosened_in ending.run opened.frames } in
    subst (λ before. IsCompleted document (reading opened (NoList ending.closed) before inside block.lines) forest tables) (sym stands)
    (extend document (reading opened (NoList ending.closed) here inside block.lines) (reading opened (NoList ending.closed) now inside block.lines)
    ending.run (λ blocks. blocks) (record {
      plain = plain;
      ends = λ path rest. refl;
      adds = λ blocks rest seq.
          let noted = is_noted quoted ending.run ending.closed blocks (first_is_other document block.opening blocks is_block other
          (known_first document path now block.place block.lines rest block.opening blocks block.stays (alike.to block.lines block.opening opens) seq)) in
          record {
            seq = seq_moved document blocks path here now block.place block.lines rest alike noted.1 seq;
            items = λ last ends. noted.0.items (suc (length opened.places)) last opened.nodes;
            counts = counts_moved quoted here now blocks noted.1;
            gaps = noted.0.gaps;
          };
      defines = λ blocks. refl;
    }) forest tables
    (subst (λ before. IsCompleted document (reading loosened (NoList ending.closed) before inside block.lines) forest tables)
    (plain_before (tail ending.closed false) loosened.frames (plain_in ending.run opened.frames plain)) fin))

-- a gap is noted before a block that is no definition
pub completes-note : (document : Document) (opened : OpenNodes) (ending : Tail) (block : OpensAtPlace document (lvl opened.frames ending))
    → IsPlain opened.frames → OpensBlock block.opening → opens_definition block.opening ≡ false
    → CompletesFrom document opened ending (Inside block.place) block.lines
    → CompletesFrom document (record opened { frames = loosened_in ending.run opened.frames }) (tail ending.closed false) (Inside block.place) block.lines
completes-note document opened ending block plain is_block other completes = search (stepped, note_step, shaped-loosened_in)
