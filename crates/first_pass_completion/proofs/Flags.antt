-- The flags of a list's node, and the end of a definition list's node, do not matter before the list is closed.
use Rattle.std.proofs.Common.{◌≡◌, ℕ, suc, ◌<◌, Bool, true, List, ◌∷◌, length, refl, sym, ap, ◌∙◌, subst, arith}
use Rattle.first_pass_grammar.proofs.Common.{Item, Place, is_quote, Document, Before, after_container, before_end, Continues, onward, end_before, ItemsOf}
use Rattle.first_pass_grammar.proofs.Common.{DefinitionsTo, Rows, any_gap, rows_of, Joins, with_all_of, ended, Closed, DefinitionClosed, TitleAt, Pending}
use Rattle.first_pass_grammar.proofs.Common.{NoList, OneList, rows_beyond, rendered, Frame, InContainer, InList, InDefinitions, closed_as, definitions_open}
use Rattle.first_pass_grammar.proofs.Common.{containers_of, loosened, IsPlain, IsShaped, length-modify}
use Rattle.first_pass_grammar.specs.declared.kind.Container.{Container}
use Rattle.first_pass_grammar.specs.declared.kind.Container.TheVariants.{Definition}
use Rattle.first_pass_completion.proofs.Extending.{stepped, AreBelow-more, length-ended, extend_same}
use Rattle.first_pass_grammar.proofs.Sequences.Finishes.{Finish, Tail, before_of}
use Rattle.first_pass_completion.proofs.TitleNodes.{reflagged, swapped, end_absorbed, flags_absorbed}
use Rattle.first_pass_completion.proofs.EarlierNodes.{IsBefore, reflagged-rendered}
use Rattle.first_pass_completion.proofs.JoinedNodes.{title-ended, list-absorbed}
use Rattle.first_pass_completion.proofs.States.{CompletesFrom, IsCompleted, IsStep, OpenNodes, Reading, reading, with_inner}

pub length-reflagged : (nodes : List (ℕ × Item)) (o : ℕ) (l : Bool) → length (reflagged nodes o l) ≡ length nodes
unfolding reflagged
length-reflagged nodes o l = length-modify nodes o _

-- nodes that render alike, whatever rows follow
renode_step : (d : Document) (w : OpenNodes) (list : Pending) (before : Before) (nodes : List (ℕ × Item)) (from : Continues) (lines : List Place)
    → IsPlain w.frames → ((k last : ℕ) (r : Rows) → rendered k last nodes list r ≡ rendered k last w.nodes list r)
    → IsStep d (reading w list before from lines) (reading (record w { nodes = nodes }) list before from lines)
renode_step d w list before nodes from lines plain same =
    extend_same d (reading w list before from lines) (reading (record w { nodes = nodes }) list before from lines) (λ s. s) (record {
      plain = plain;
      ends = λ path mid. refl;
      adds = λ s mid seq. record { seq = seq; items = λ last is. sym (same (suc (length w.places)) last _); counts = refl; gaps = λ last. refl };
      defines = λ s. refl;
    })

-- a definition list is open, and its last child is a definition or a possible title
abbrev pub IsDefined : Closed → Type 0
IsDefined (DefinitionClosed e blanks) = Unit {0}
IsDefined (TitleAt e at) = Unit {0}
IsDefined _ = ⊥

open_ended : (o x : ℕ) (loose : Bool) (closed : Closed) (nodes : List (ℕ × Item)) → IsDefined closed → (k last : ℕ) (r : Rows)
    → rendered k last (ended nodes o x) (definitions_open o loose (NoList closed)) r ≡ rendered k last nodes (definitions_open o loose (NoList closed)) r
unfolding ended
open_ended o x loose (DefinitionClosed e blanks) nodes h k last r = list-absorbed k last nodes o _ (end_absorbed x) loose r (DefinitionsTo e)
open_ended o x loose (TitleAt e at) nodes h k last r = title-ended k last nodes o x at e loose r
open_ended o x loose closed nodes h k last r = absurd h

list-reflagged : (k last : ℕ) (nodes : List (ℕ × Item)) (o : ℕ) (joins : Joins) (loose : Bool) (r : Rows)
    → rendered k last (reflagged nodes o true) (OneList o joins loose) r ≡ rendered k last nodes (OneList o joins loose) r
unfolding reflagged
list-reflagged k last nodes o joins loose r = list-absorbed k last nodes o _ (flags_absorbed true) loose r joins

-- the flags of a list that may continue
pub completes-reflag_list : (d : Document) (w : OpenNodes) (t : Tail) (byte : ℕ) (loose : Bool) (o : ℕ) (from : Continues) (lines : List Place)
    → CompletesFrom d (with_inner w (InList byte loose) o) t from lines
    → CompletesFrom d (with_inner (record w { nodes = reflagged w.nodes o true }) (InList byte loose) o) t from lines
unfolding Finish
completes-reflag_list d w t byte loose o from lines k =
    stepped d _ _ _ _ _ _ _ _ k
    (renode_step d w (OneList o (ItemsOf byte) loose) (before_of (InList byte loose ∷ w.frames) t) (reflagged w.nodes o true) from lines
    k.shape.0 (λ k last r. list-reflagged k last w.nodes o (ItemsOf byte) loose r))
    (AreBelow-more _ _ (o ∷ w.places) (let n = length-reflagged w.nodes o true in omega arith) k.below, k.shape)

-- the end in a definition list's node while the list may continue
pub completes-reended : (d : Document) (w : OpenNodes) (t : Tail) (loose : Bool) (o x : ℕ) (from : Continues) (lines : List Place)
    → IsDefined t.closed → CompletesFrom d (with_inner w (InDefinitions loose) o) t from lines
    → CompletesFrom d (with_inner (record w { nodes = ended w.nodes o x }) (InDefinitions loose) o) t from lines
unfolding Finish
completes-reended d w t loose o x from lines own k =
    stepped d _ _ _ _ _ _ _ _ k
    (renode_step d w (definitions_open o loose (NoList t.closed)) (before_of (InDefinitions loose ∷ w.frames) t) (ended w.nodes o x) from lines k.shape.0
    (open_ended o x loose t.closed w.nodes own))
    (AreBelow-more _ _ (o ∷ w.places) (let n = length-ended w.nodes o x in omega arith) k.below, k.shape)

ended-reflagged : (nodes : List (ℕ × Item)) (o x e : ℕ) (l : Bool) → ended (reflagged nodes o l) x e ≡ reflagged (ended nodes x e) o l
unfolding ended reflagged
ended-reflagged nodes o x e l = swapped nodes o x _ _ (λ y. refl)

-- the frame is that of a list around this container; only definitions are in a definition list
abbrev pub IsListAround : Frame → Container → Type 0
IsListAround (InList byte loose) c = Unit {0}
IsListAround (InDefinitions loose) (Definition columns) = Unit {0}
IsListAround _ c = ⊥

-- the flags of that list after the container is closed
reflag_step : (d : Document) (w : OpenNodes) (frame : Frame) (c : Container) (gap : Bool) (o e : ℕ) (before : Before) (from : Continues) (lines : List Place)
    → IsListAround frame c → IsShaped (frame ∷ w.frames)
    → (let now : List (ℕ × Item) → Reading = λ nodes.
    reading (record w { frames = loosened gap (frame ∷ w.frames); nodes = nodes; places = o ∷ w.places }) (NoList (closed_as c e)) before from lines in
    IsStep d (now w.nodes) (now (reflagged w.nodes o true)))
unfolding Finish
reflag_step d w (InList byte loose) c gap o e before from lines around shape = grind (arith, renode_step, reflagged, list-reflagged)
reflag_step d w (InDefinitions loose) (Definition columns) gap o e before from lines around shape = grind (arith, renode_step, reflagged, list-reflagged)
reflag_step d w frame c gap o e before from lines around shape = absurd around

-- The list around a container may be loose already.
pub completes-reflag : (d : Document) (w : OpenNodes) (t : Tail) (frame : Frame) (c : Container) (x o : ℕ) (from : Continues) (lines : List Place)
    → IsListAround frame c → IsBefore o t.closed
    → (let inner : List (ℕ × Item) → OpenNodes = λ nodes. with_inner (with_inner (record w { nodes = nodes }) frame o) (InContainer c) x in
    CompletesFrom d (inner w.nodes) t from lines → CompletesFrom d (inner (reflagged w.nodes o true)) t from lines)
unfolding Finish
completes-reflag d w t frame c x o from lines around before_it whole =
    stepped d _ _ _ _ _ _ _ _ whole (λ forest tables (s, mid, seq, fin).
    let k : ℕ = suc (length (x ∷ o ∷ w.places)) in
    let before : Before = before_of (InContainer c ∷ frame ∷ w.frames) t in
    let e : ℕ = end_before (length d.text) (containers_of (frame ∷ w.frames)) from mid in
    let rows : Rows = rows_of (is_quote c) before e s in
    let now : Before = after_container c (before_end (is_quote c) before s) in
    let all : List (ℕ × Item) = rendered k e w.nodes (NoList t.closed) rows in
    let gap : Bool = any_gap (rows_beyond (NoList t.closed) rows) in
    let old : OpenNodes = record w { defined = with_all_of w.defined s; nodes = ended all x e } in
    let new : List (ℕ × Item) → Reading = λ nodes.
    reading (record old { frames = loosened gap (frame ∷ w.frames); nodes = nodes; places = o ∷ w.places }) (NoList (closed_as c e)) now
    (onward mid).0 (onward mid).1 in
    let within : o < length w.nodes = (let a : x < length w.nodes = whole.below.0 in let b : o < x = whole.below.1.0 in omega arith) in
    let same : ended (rendered k e (reflagged w.nodes o true) (NoList t.closed) rows) x e ≡ reflagged (ended all x e) o true =
    ap (λ z. ended z x e) (reflagged-rendered k e w.nodes o true t.closed rows within before_it) ∙ ended-reflagged all o x e true in (
      s,
      mid,
      seq,
      reflag_step d old frame c gap o e now (onward mid).0 (onward mid).1 around whole.shape.1 forest tables
          (subst (λ z. IsCompleted d (new z) forest tables) same fin),
    )) (AreBelow-more _ _ (x ∷ o ∷ w.places) (let n = length-reflagged w.nodes o true in omega arith) whole.below, whole.shape)
