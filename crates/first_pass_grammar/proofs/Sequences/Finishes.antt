-- The completions of open nodes, as one type over the further parts of the open containers.
use Rattle.std.proofs.Common.{◌≡◌, ℕ, suc, Bool, false, List, ◌∷◌, length, refl, sym, subst, arith, []}
use Rattle.first_pass_grammar.proofs.Common.{Item, Place, Document, Skeleton, Before, after_container, before_end, Continues, level, Remaining, Lines}
use Rattle.first_pass_grammar.proofs.Common.{onward, end_before, IsSequence, ItemsOf, Rows, any_gap, rows_of, Tables, Derives, with_all_of, ended, Pending}
use Rattle.first_pass_grammar.proofs.Common.{NoList, OneList, Unfinished, Further, AreFurther, rows_beyond, rendered, Frame, InContainer, Closed}
use Rattle.first_pass_grammar.proofs.Common.{InDefinitions, closed_as, definitions_open, InList, containers_of, loosened, last_of, Becomes, Completes}
use Rattle.first_pass_grammar.proofs.Common.{container_closed, AreBelow, IsShaped, is_quote}

-- some remaining sequence of the innermost container, and so on outwards
unfoldable pub Finish : Document → Tables → Pending → Before → List Frame → List (ℕ × Item) → List ℕ → Continues → List Place → List (ℕ × Item) → Tables
    → Type 0
Finish d defined list before [] nodes [] from lines forest tables =
    (s : Skeleton) × IsSequence d s (level [] before) from lines (Lines [])
    × (forest ≡ rendered 1 (length d.text) nodes list (rows_of false before (length d.text) s)) × (tables ≡ with_all_of defined s)
Finish d defined list before [] nodes (place ∷ places) from lines forest tables = ⊥
Finish d defined list before (frame ∷ frames) nodes [] from lines forest tables = ⊥
Finish d defined list before (InList byte loose ∷ frames) nodes (place ∷ places) from lines forest tables =
    Finish d defined (OneList place (ItemsOf byte) loose) before frames nodes places from lines forest tables
Finish d defined list before (InDefinitions loose ∷ frames) nodes (place ∷ places) from lines forest tables =
    Finish d defined (definitions_open place loose list) before frames nodes places from lines forest tables
Finish d defined list before (InContainer c ∷ frames) nodes (place ∷ places) from lines forest tables =
    (s : Skeleton) × (mid : Remaining) × IsSequence d s (level (c ∷ containers_of frames) before) from lines mid
    × (let last : ℕ = end_before (length d.text) (containers_of frames) from mid in
    let rows : Rows = rows_of (is_quote c) before last s in
    Finish d (with_all_of defined s) (NoList (closed_as c last)) (after_container c (before_end (is_quote c) before s))
    (loosened (any_gap (rows_beyond list rows)) frames) (ended (rendered (suc (length (place ∷ places))) last nodes list rows) place last)
    places (onward mid).0 (onward mid).1 forest tables)

pub containers-loosened : (gap : Bool) (frames : List Frame) → containers_of (loosened gap frames) ≡ containers_of frames
containers-loosened gap frames = grind arith

-- the state with these parts
abbrev pub unfinished : Tables → List (ℕ × Item) → Pending → Before → Unfinished
unfinished defined nodes list before = record { nodes = nodes; list = list; before = before; defined = defined }

abbrev further_to : Skeleton → ℕ → Further
further_to s e = record { blocks = s; «end» = e }

-- further parts that complete the open nodes finish them
finish_of : (d : Document) (frames : List Frame) (os : List ℕ) (w : Unfinished) (from : Continues) (lines : List Place) (further : List Further)
    (forest : List (ℕ × Item)) (tables : Tables)
    → AreFurther d (containers_of frames) w.before from lines further → Becomes frames os w further forest tables
    → Finish d w.defined w.list w.before frames w.nodes os from lines forest tables
unfolding AreFurther Becomes Finish
finish_of d [] [] w from lines [] forest tables are becomes = absurd becomes
finish_of d [] [] w from lines (f ∷ []) forest tables (seq, e) (is, tables_are) = grind arith
finish_of d [] [] w from lines (f ∷ g ∷ more) forest tables are becomes = absurd are
finish_of d (InDefinitions loose ∷ frames) (o ∷ os) w from lines further forest tables are becomes =
    finish_of d frames os (record w { list = definitions_open o loose w.list }) from lines further forest tables are becomes
finish_of d (InList byte loose ∷ frames) (o ∷ os) w from lines further forest tables are becomes =
    finish_of d frames os (record w { list = OneList o (ItemsOf byte) loose }) from lines further forest tables are becomes
finish_of d (InContainer c ∷ frames) (o ∷ os) w from lines [] forest tables are becomes = absurd are
finish_of d (InContainer c ∷ frames) (o ∷ os) w from lines (f ∷ further) forest tables (mid, seq, is, are) becomes =
    let e : ℕ = end_before (length d.text) (containers_of frames) from mid in
    let now : Before = after_container c (before_end (is_quote c) w.before f.blocks) in
    let rows : Rows = rows_of (is_quote c) w.before e f.blocks in
    let gap : Bool = any_gap (rows_beyond w.list rows) in
    let closed : Unfinished = container_closed c (suc (length (o ∷ os))) o w (further_to f.blocks e) rows in (
      f.blocks,
      mid,
      seq,
      finish_of d (loosened gap frames) os closed (onward mid).0 (onward mid).1 further forest tables
          (subst (λ p. AreFurther d p now (onward mid).0 (onward mid).1 further) (sym (containers-loosened gap frames)) are)
          (subst (λ z. Becomes (InContainer c ∷ frames) (o ∷ os) w (further_to f.blocks z ∷ further) forest tables) is becomes),
    )
finish_of d frames os w from lines further forest tables are becomes = becomes

-- what finishes the open nodes has further parts that complete them
of_finish : (d : Document) (frames : List Frame) (os : List ℕ) (w : Unfinished) (from : Continues) (lines : List Place) (forest : List (ℕ × Item))
    (tables : Tables) → Finish d w.defined w.list w.before frames w.nodes os from lines forest tables
    → (further : List Further) × AreFurther d (containers_of frames) w.before from lines further × Becomes frames os w further forest tables
unfolding AreFurther Becomes Finish
of_finish d [] [] w from lines forest tables (s, seq, is, tables_are) = (further_to s (length d.text) ∷ [], (seq, refl), (is, tables_are))
of_finish d (InDefinitions loose ∷ frames) (o ∷ os) w from lines forest tables fin =
    of_finish d frames os (record w { list = definitions_open o loose w.list }) from lines forest tables fin
of_finish d (InList byte loose ∷ frames) (o ∷ os) w from lines forest tables fin =
    of_finish d frames os (record w { list = OneList o (ItemsOf byte) loose }) from lines forest tables fin
of_finish d (InContainer c ∷ frames) (o ∷ os) w from lines forest tables (s, mid, seq, fin) =
    let e : ℕ = end_before (length d.text) (containers_of frames) from mid in
    let rows : Rows = rows_of (is_quote c) w.before e s in
    let now : Before = after_container c (before_end (is_quote c) w.before s) in
    let gap : Bool = any_gap (rows_beyond w.list rows) in
    let closed : Unfinished = container_closed c (suc (length (o ∷ os))) o w (further_to s e) rows in
    let r = of_finish d (loosened gap frames) os closed (onward mid).0 (onward mid).1 forest tables fin in
    let are : AreFurther d (containers_of frames) now (onward mid).0 (onward mid).1 r.0 =
    subst (λ p. AreFurther d p now (onward mid).0 (onward mid).1 r.0) (containers-loosened gap frames) r.1 in
    (further_to s e ∷ r.0, (mid, seq, refl, are), r.2)
of_finish d frames os w from lines forest tables fin = absurd fin

-- the end of open nodes: the last child of the innermost one, and whether the blank lines after it include a counting
-- one
pub record Tail : Type 0 where
  pub closed : Closed
  pub run : Bool

-- what precedes the next block in open nodes with this end
abbrev pub before_of : List Frame → Tail → Before
before_of frames t = record { last = last_of frames t.closed; counted = t.run }

-- open nodes at these places, as the frames list them, with this end: every completion of them is derived by the text
abbrev pub CompletesAt : Document → Tables → Tail → List Frame → List (ℕ × Item) → List ℕ → Continues → List Place → Type 0
CompletesAt d defined t frames nodes os from lines = Completes d frames os (unfinished defined nodes (NoList t.closed) (before_of frames t)) from lines

-- such nodes are completed to this forest and these tables
abbrev pub FinishesAt : Document → Tables → Tail → List Frame → List (ℕ × Item) → List ℕ → Continues → List Place → List (ℕ × Item) → Tables → Type 0
FinishesAt d defined t frames nodes os from lines forest tables =
    Finish d defined (NoList t.closed) (before_of frames t) frames nodes os from lines forest tables

pub finish_derives : (d : Document) (defined : Tables) (t : Tail) (frames : List Frame) (nodes : List (ℕ × Item)) (os : List ℕ) (from : Continues)
    (lines : List Place)
    → CompletesAt d defined t frames nodes os from lines
    → (forest : List (ℕ × Item)) (tables : Tables) → FinishesAt d defined t frames nodes os from lines forest tables → Derives d forest tables
finish_derives d defined t frames nodes os from lines c forest tables fin =
    grind (arith, of_finish d frames os (unfinished defined nodes (NoList t.closed) (before_of frames t)) from lines forest tables fin)

-- open nodes at their places are completed if the text derives all that finishes them
pub completes_by : (d : Document) (frames : List Frame) (os : List ℕ) (w : Unfinished) (from : Continues) (lines : List Place)
    → AreBelow (length w.nodes) os → IsShaped frames
    → ((forest : List (ℕ × Item)) (tables : Tables) → Finish d w.defined w.list w.before frames w.nodes os from lines forest tables → Derives d forest tables)
    → Completes d frames os w from lines
completes_by d frames os w from lines below shape whole = grind (arith, finish_of)
