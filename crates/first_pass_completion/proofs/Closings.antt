-- Lists that are closed before a block that ends them.
use Rattle.std.proofs.Common.{◌≡◌, ℕ, suc, Bool, true, false, ◌==◌, List, ◌∷◌, length, Option, Some, None, refl, sym, ap, ◌∙◌, if◌then◌else◌, subst}
use Rattle.std.proofs.Common.{true≢false, arith}
use Rattle.first_pass_grammar.proofs.Common.{option_map_or, or-false, Place, in_quote, Document, LeafBlock, BlankLine, Block, Head, Opener, QuoteMarker}
use Rattle.first_pass_grammar.proofs.Common.{ItemMarker, DefinitionMarker, Skeleton, Nil, Then, Node, LastOther, LastParagraph, LastDefinition, Before}
use Rattle.first_pass_grammar.proofs.Common.{begins_paragraph, after_block, Continues, Inside, Opening, OpensLeaf, OpensNode, Opens, level, ALeaf, Joins}
use Rattle.first_pass_grammar.proofs.Common.{ItemsOf, DefinitionsTo, Rows, End, OneOf, Definitions, any_gap, is_loose, is_paragraph, list_until, items_after}
use Rattle.first_pass_grammar.proofs.Common.{list_after, what_of, row_of, row_of_leaf, titled, gap_before, container_row, rows_of, definitions_first}
use Rattle.first_pass_grammar.proofs.Common.{items_of, OtherClosed, ParagraphAt, DefinitionClosed, TitleAt, Pending, NoList, OneList, OneTitle, rows_beyond}
use Rattle.first_pass_grammar.proofs.Common.{rendered, InList, InDefinitions, containers_of, IsPlain}
use Rattle.first_pass_grammar.specs.declared.kind.Container.{Container}
use Rattle.first_pass_grammar.specs.Rows.{closing_place}
use Rattle.first_pass_grammar.proofs.Uniqueness.Alike.{only_opener, only_head, AlikeOpening}
use Rattle.first_pass_completion.proofs.Extending.{stepped, tail, lvl, stands_after, plain_before, OpensAtPlace, extend_same}
use Rattle.first_pass_grammar.proofs.Sequences.Finishes.{Finish, Tail}
use Rattle.first_pass_completion.proofs.FlatBlocks.{OwnParagraph}
use Rattle.first_pass_completion.proofs.Moved.{is_definition, opens_definition, OpensAlike, takes_alike, other_alike, SameAfter, seq_moved, SameFirst}
use Rattle.first_pass_completion.proofs.Moved.{same_after, rows_moved, counts_moved, Known, FirstHas, known_first, OpensBlock, FirstIsOther, first_is_other}
use Rattle.first_pass_completion.proofs.PoppedLists.{last_in, closed_below, title_below, list_popped, title_popped}
use Rattle.first_pass_grammar.proofs.Uniqueness.RowsAlike.{begins_alike}
use Rattle.first_pass_completion.proofs.Titles.{BeginsOther, title_stays, titled_by}
use Rattle.first_pass_completion.proofs.States.{CompletesFrom, IsCompleted, IsStep, OpenDefinitions, OpenNodes, Reading, reading, reading_at, with_inner}

-- where a list of items ends before a leaf block; the next definition: before a container (this project)
abbrev pub leaf_closes : LeafBlock → ℕ
leaf_closes b = closing_place (ALeaf b) b.line b.start

abbrev pub head_closes : Head → ℕ
head_closes head = closing_place (what_of head.opener 0) head.line head.start

-- a container is the next item of the list that these continue, or its next definition
abbrev pub joins : Joins → Opener → Bool
joins (ItemsOf list) (ItemMarker byte number columns) = list == byte
joins (ItemsOf list) o = false
joins (DefinitionsTo e) o = is_definition o

-- A leaf block ends a list at an offset. It ends a definition list only if the block does not begin with a paragraph,
-- which might be the next title. If it was read as a paragraph, that list ends with its last definition.
abbrev pub LeafAway : Joins → ℕ → LeafBlock → Type 0
LeafAway (ItemsOf byte) at b = leaf_closes b ≡ at
LeafAway (DefinitionsTo e) at b = (begins_paragraph b.items ≡ false) × ((if is_paragraph b.kind then e else leaf_closes b) ≡ at)

-- the opening ends a list that these continue, at an offset
abbrev pub OpensAway : Joins → ℕ → Opening → Type 0
OpensAway list at (OpensLeaf BlankLine there left) = ⊥
OpensAway list at (OpensLeaf (Block b) there left) = LeafAway list at b
OpensAway list at (OpensNode head inside following) = (head_closes head ≡ at) × (joins list head.opener ≡ false)

-- an opening that ends a definition list is no definition
away_other : (e at : ℕ) (o : Opening) → OpensAway (DefinitionsTo e) at o → opens_definition o ≡ false
away_other e at (OpensLeaf BlankLine there left) away = absurd away
away_other e at (OpensLeaf (Block b) there left) away = refl
away_other e at (OpensNode head inside following) away = away.1

-- the first block of a sequence ends the list; it is also flat
abbrev EndsList : Joins → ℕ → Skeleton → Type 0
EndsList list at (Then (Block b) next) = LeafAway list at b × OwnParagraph b
EndsList list at (Node head e kids next) = (head_closes head ≡ at) × (joins list head.opener ≡ false)
EndsList list at s = ⊥

only_closes : (o : Opener) (line start : ℕ)
    → head_closes (only_head (record { opener = o; line = line; start = start })) ≡ head_closes (record { opener = o; line = line; start = start })
only_closes (QuoteMarker kind) line start = refl
only_closes o line start = refl

only_joins : (list : Joins) (o : Opener) → joins list (only_opener o) ≡ joins list o
only_joins (ItemsOf byte) (QuoteMarker kind) = refl
only_joins (DefinitionsTo e) (QuoteMarker kind) = refl
only_joins list o = refl

leaf_away : (d : Document) (list : Joins) (at : ℕ) (b b' : LeafBlock) (there there' : Continues) (left left' : List Place)
    → AlikeOpening d.names d.names (OpensLeaf (Block b) there left) (OpensLeaf (Block b') there' left') → LeafAway list at b → LeafAway list at b'
leaf_away d (ItemsOf byte) at b b' there there' left left' a away = grind arith
leaf_away d (DefinitionsTo e) at b b' there there' left left' a away = grind (arith, begins_alike)

ends_list : (d : Document) (list : Joins) (at : ℕ) (o : Opening) (s : Skeleton) → OpensAway list at o → FirstHas (Known d o) s → EndsList list at s
ends_list d list at o Nil away known = known
ends_list d list at (OpensLeaf BlankLine there left) (Then leaf next) away known = absurd away
ends_list d list at (OpensLeaf (Block b) there left) (Then BlankLine next) away (there', left', (alike, flat)) = absurd alike.0
ends_list d list at (OpensLeaf (Block b) there left) (Then (Block b') next) away (there', left', (alike, flat)) = grind (arith, leaf_away)
ends_list d list at (OpensLeaf leaf there left) (Node head' e' kids' next') away (inside', following', (alike, flat)) = absurd alike
ends_list d list at (OpensNode head inside following) (Then leaf' next') away (there', left', (alike, flat)) = absurd alike
ends_list d list at (OpensNode head inside following) (Node head' e' kids' next') away (inside', following', (alike, flat)) =
    grind (arith, only_closes, only_joins)

-- The rows of what ends a list include none that continues it.
pub record AreAway (list : Joins) (at last : ℕ) (rows : Rows) : Type 0 where
  pub none : items_after list rows ≡ End
  pub until : list_until list last rows ≡ at
  pub past : list_after list rows ≡ rows

container_away : (list : Joins) (at last : ℕ) (opener : Opener) (line start e : ℕ) (gap : Bool) (inner next : Rows)
    → (let head : Head = record { opener = opener; line = line; start = start } in
    head_closes head ≡ at → joins list opener ≡ false → AreAway list at last (container_row last opener (row_of head e gap) inner next))
container_away (ItemsOf byte) at last (ItemMarker list number columns) line start e gap inner next closes other = search
container_away (DefinitionsTo x) at last (DefinitionMarker columns) line start e gap inner next closes other = absurd (true≢false other)
container_away list at last o line start e gap inner next closes other = record { none = refl; until = closes; past = refl }

-- a paragraph, with or without definitions, starts where it closes a list of items
start_by : (t : Bool) (line start : ℕ) → t ≡ true → start ≡ (if t then start else line)
start_by true line start is = refl
start_by false line start is = absurd (true≢false (sym is))

paragraph_away : (byte at last : ℕ) (b : LeafBlock) (gap : Bool) (next : Rows) (o : Option Definitions) → is_paragraph b.kind ≡ true → leaf_closes b ≡ at
    → AreAway (ItemsOf byte) at last (option_map_or (titled b gap) o (OneOf (row_of_leaf b gap) End next))
paragraph_away byte at last b gap next None is closes = record { none = refl; until = closes; past = refl }
paragraph_away byte at last b gap next (Some ds) is closes = search start_by

leaf_by : (list : Joins) (at last : ℕ) (b : LeafBlock) (gap : Bool) (next : Rows) (t : Bool) → begins_paragraph b.items ≡ t
    → LeafAway list at b → OwnParagraph b
    → AreAway list at last (option_map_or (titled b gap) (if t then definitions_first next else None) (OneOf (row_of_leaf b gap) End next))
leaf_by (ItemsOf byte) at last b gap next true is away own = paragraph_away byte at last b gap next (definitions_first next) (own.kind is) away
leaf_by (ItemsOf byte) at last b gap next false is away own = record { none = refl; until = away; past = refl }
leaf_by (DefinitionsTo e) at last b gap next true is away own = absurd (true≢false (sym is ∙ away.0))
leaf_by (DefinitionsTo e) at last b gap next false is away own = record { none = refl; until = away.1; past = refl }

rows_away : (quoted : Bool) (list : Joins) (at last : ℕ) (before : Before) (s : Skeleton) → EndsList list at s
    → AreAway list at last (rows_of quoted before last s)
unfolding rows_of
rows_away quoted list at last before (Then (Block b) next) u = grind (arith, leaf_by)
rows_away quoted list at last before (Node head e kids next) u = grind (arith, container_away)
rows_away quoted list at last before s u = absurd u

-- a leaf block that does not begin with a paragraph is the same after a definition as after another block
other_by : (b : LeafBlock) (run blanks t : Bool) → begins_paragraph b.items ≡ t → t ≡ false
    → (gap_before (stands_after (LastDefinition blanks) run) b ≡ gap_before (stands_after LastOther run) b)
    × (after_block (stands_after (LastDefinition blanks) run) b ≡ after_block (stands_after LastOther run) b)
other_by b run blanks true is other = absurd (true≢false other)
other_by b run blanks false is other = (rw is refl, rw is refl)

-- What ends a list is the same whether the list before it is still open or closed.
same_away : (list : Joins) (at : ℕ) (run blanks : Bool) (s : Skeleton) → EndsList list at s
    → SameFirst (stands_after (last_in list blanks) run) (stands_after LastOther run) s
same_away (ItemsOf byte) at run blanks (Then (Block b) next) u = (refl, refl)
same_away (DefinitionsTo e) at run blanks (Then (Block b) next) u = other_by b run blanks _ refl u.0.0
same_away list at run blanks (Node head e kids next) u = refl
same_away list at run blanks s u = absurd u

-- what opens and ends a list opens alike whether the list is open or closed
alike_away : (d : Document) (path : List Container) (list : Joins) (at : ℕ) (run blanks : Bool) (p : Place) (lines : List Place) (o : Opening)
    → OpensAway list at o → Opens d (level path (stands_after (last_in list blanks) run)) p lines o
    → OpensAlike d path (stands_after (last_in list blanks) run) (stands_after LastOther run) p
alike_away d path (ItemsOf byte) at run blanks p lines o away opens = takes_alike d path _ _ p refl
alike_away d path (DefinitionsTo e) at run blanks p lines o away opens = other_alike d path _ _ p lines o (away_other e at o away) refl opens

-- a list that is closed before a block that ends it
close_step : (d : Document) (w : OpenNodes) (list : Joins) (run blanks loose : Bool) (o at : ℕ)
    (b : OpensAtPlace d (level (containers_of w.frames) (stands_after (last_in list blanks) run)))
    → IsPlain w.frames → OpensAway list at b.opening
    → IsStep d (reading w (OneList o list loose) (stands_after (last_in list blanks) run) (Inside b.place) b.lines)
    (reading_at (list_popped w o loose at) (tail OtherClosed run) (Inside b.place) b.lines)
unfolding items_of is_loose rendered
close_step d w list run blanks loose o at b plain away forest tables fin =
    let path : List Container = containers_of w.frames in
    let q : Bool = in_quote path in
    let here : Before = stands_after (last_in list blanks) run in
    let closed : Before = stands_after LastOther run in
    let alike : OpensAlike d path here closed b.place = alike_away d path list at run blanks b.place b.lines b.opening away b.opens in
    let next : Reading = reading (list_popped w o loose at) (NoList OtherClosed) closed (Inside b.place) b.lines in
    extend_same d (reading w (OneList o list loose) here (Inside b.place) b.lines) next (λ s. s) (record {
      plain = plain;
      ends = λ path mid. refl;
      adds = λ s mid seq.
          let u = ends_list d list at b.opening s away
          (known_first d path closed b.place b.lines mid b.opening s b.stays (alike.to b.lines b.opening b.opens) seq) in
          let v = λ (last : ℕ). rows_away q list at last closed s u in
          let same = same_away list at run blanks s u in
          let first : SameAfter here closed s = same_after here closed s same in
          record {
            seq = seq_moved d s path here closed b.place b.lines mid alike first seq;
            items = λ last is. ap (rendered (suc (length w.places)) last w.nodes (OneList o list loose)) (rows_moved q here closed last s same)
                ∙ rw ((v last).none, (v last).until, (v last).past, or-false loose) refl;
            counts = counts_moved q here closed s first;
            gaps = λ last. ap (λ z. any_gap (list_after list z)) (rows_moved q here closed last s same) ∙ ap any_gap (v last).past;
          };
      defines = λ s. refl;
    }) forest tables (subst (λ z. IsCompleted d (record next { before = z }) forest tables) (plain_before (tail OtherClosed run) w.frames plain) fin)

-- a list that is closed before a block that ends it
pub completes-close : (d : Document) (w : OpenNodes) (t : Tail) (byte : ℕ) (loose : Bool) (o at : ℕ)
    (b : OpensAtPlace d (lvl (InList byte loose ∷ w.frames) t))
    → OpensAway (ItemsOf byte) at b.opening → CompletesFrom d (with_inner w (InList byte loose) o) t (Inside b.place) b.lines
    → CompletesFrom d (list_popped w o loose at) (tail OtherClosed t.run) (Inside b.place) b.lines
unfolding Finish
completes-close d w t byte loose o at b away k =
    stepped d _ _ _ _ _ _ _ _ k (close_step d w (ItemsOf byte) t.run false loose o at b k.shape.0 away)
    (closed_below w.nodes o w.places (suc (suc (suc (length w.places)))) loose at k.below, k.shape.1)

-- a definition list that is closed before a block that ends it, after a definition
pub completes-close_definitions : (d : Document) (w : OpenNodes) (l : OpenDefinitions) (blanks run : Bool) (at : ℕ)
    (b : OpensAtPlace d (lvl (InDefinitions l.loose ∷ w.frames) (tail (DefinitionClosed l.«end» blanks) run)))
    → OpensAway (DefinitionsTo l.«end») at b.opening
    → CompletesFrom d (with_inner w (InDefinitions l.loose) l.place) (tail (DefinitionClosed l.«end» blanks) run) (Inside b.place) b.lines
    → CompletesFrom d (list_popped w l.place l.loose at) (tail OtherClosed run) (Inside b.place) b.lines
unfolding Finish
completes-close_definitions d w l blanks run at b away k =
    stepped d _ _ _ _ _ _ _ _ k (close_step d w (DefinitionsTo l.«end») run blanks l.loose l.place at b k.shape.0 away)
    (closed_below w.nodes l.place w.places (suc (suc (suc (length w.places)))) l.loose at k.below, k.shape.1)

container_other : (last : ℕ) (o : Opener) (line start e : ℕ) (gap : Bool) (inner next : Rows) → is_definition o ≡ false
    → BeginsOther (container_row last o (row_of (record { opener = o; line = line; start = start }) e gap) inner next)
container_other last (DefinitionMarker columns) line start e gap inner next other = absurd (true≢false other)
container_other last o line start e gap inner next other = refl

-- the rows of a leaf block, or of a container that is no definition, do not begin with definitions
leaf_other : (b : LeafBlock) (gap : Bool) (r : Rows) (o : Option Definitions) → BeginsOther (option_map_or (titled b gap) o (OneOf (row_of_leaf b gap) End r))
leaf_other b gap r None = refl
leaf_other b gap r (Some ds) = titled_by ds.apart ds.«end»

rows_other : (quoted : Bool) (before : Before) (last : ℕ) (s : Skeleton) → FirstIsOther s → BeginsOther (rows_of quoted before last s)
unfolding rows_of
rows_other quoted before last (Then (Block b) next) other = leaf_other b (gap_before before b) _ _
rows_other quoted before last (Node head e kids next) other = container_other last head.opener head.line head.start e before.counted _ _ other
rows_other quoted before last s other = absurd other

title_same : (run : Bool) (s : Skeleton) → FirstIsOther s → SameFirst (stands_after (LastParagraph true) run) (stands_after (LastParagraph false) run) s
title_same run (Then (Block b) next) other = (refl, refl)
title_same run (Node head e kids next) other = refl
title_same run s other = absurd other

-- a definition list that is closed before a block other than a definition; its last child, a possible title, becomes a
-- paragraph
pub completes-close_title : (d : Document) (w : OpenNodes) (l : OpenDefinitions) (at : ℕ) (run : Bool)
    (b : OpensAtPlace d (lvl (InDefinitions l.loose ∷ w.frames) (tail (TitleAt l.«end» at) run)))
    → OpensBlock b.opening → opens_definition b.opening ≡ false
    → CompletesFrom d (with_inner w (InDefinitions l.loose) l.place) (tail (TitleAt l.«end» at) run) (Inside b.place) b.lines
    → CompletesFrom d (title_popped w l at) (tail (ParagraphAt at) run) (Inside b.place) b.lines
unfolding Finish
completes-close_title d w l at run b block other k =
    let path : List Container = containers_of w.frames in
    let q : Bool = in_quote path in
    let here : Before = stands_after (LastParagraph true) run in
    let closed : Before = stands_after (LastParagraph false) run in
    let alike : OpensAlike d path here closed b.place = takes_alike d path here closed b.place refl in
    let list : Pending = OneTitle l.place at l.«end» l.loose in
    let next : Reading = reading (title_popped w l at) (NoList (ParagraphAt at)) closed (Inside b.place) b.lines in
    stepped d _ _ _ _ _ _ _ _ k (λ forest tables fin.
    extend_same d (reading w list here (Inside b.place) b.lines) next (λ s. s) (record {
      plain = k.shape.0;
      ends = λ path mid. refl;
      adds = λ s mid seq.
          let u = first_is_other d b.opening s block other
          (known_first d path closed b.place b.lines mid b.opening s b.stays (alike.to b.lines b.opening b.opens) seq) in
          let same = title_same run s u in
          let first : SameAfter here closed s = same_after here closed s same in
          record {
            seq = seq_moved d s path here closed b.place b.lines mid alike first seq;
            items = λ last is. ap (rendered (suc (length w.places)) last w.nodes list) (rows_moved q here closed last s same)
                ∙ title_stays (suc (length w.places)) last w.nodes l.place at l.«end» l.loose (rows_of q closed last s) (rows_other q closed last s u);
            counts = counts_moved q here closed s first;
            gaps = λ last. ap (λ z. any_gap (rows_beyond list z)) (rows_moved q here closed last s same);
          };
      defines = λ s. refl;
    }) forest tables (subst (λ z. IsCompleted d (record next { before = z }) forest tables) (plain_before (tail (ParagraphAt at) run) w.frames k.shape.0) fin))
    (title_below w.nodes l.place w.places (suc (suc (suc (length w.places)))) l.loose l.«end» at k.below, k.shape.1)
