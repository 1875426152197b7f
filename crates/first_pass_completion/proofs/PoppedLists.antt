-- Lists that are closed together with the container around them.
use Rattle.std.proofs.Common.{◌≡◌, ℕ, suc, ◌<◌, Bool, true, false, List, [], ◌∷◌, length, None, refl, sym, ap, ◌∙◌, subst, arith}
use Rattle.first_pass_grammar.proofs.Common.{or-false, Item, Place, next_goes_on, ends_footnote, Document, around, Last, LastParagraph, LastItem}
use Rattle.first_pass_grammar.proofs.Common.{LastDefinition, Before, before_end, Continues, Line, Inside, level, Remaining, Lines, InLine, Ends, next_block}
use Rattle.first_pass_grammar.proofs.Common.{only_blanks, end_of_left, IsSequence, Joins, ItemsOf, DefinitionsTo, End, any_gap, is_loose, definitions_first}
use Rattle.first_pass_grammar.proofs.Common.{rows_of, items_of, title_left, list_closed, OtherClosed, ParagraphAt, DefinitionClosed, TitleAt, Pending}
use Rattle.first_pass_grammar.proofs.Common.{NoList, OneList, OneTitle, rows_beyond, rendered, InList, InDefinitions, containers_of, AreBelow, IsPlain}
use Rattle.first_pass_grammar.specs.declared.kind.Container.{Container}
use Rattle.first_pass_completion.proofs.Extending.{stepped, tail, AreBelow-more, stands_after, Adds, extend_same}
use Rattle.first_pass_grammar.proofs.Sequences.Finishes.{Finish, Tail, before_of}
use Rattle.first_pass_grammar.proofs.Sequences.Goings.{ends_inside, stops}
use Rattle.first_pass_grammar.proofs.Sequences.Tightening.{length-closed}
use Rattle.first_pass_completion.proofs.TitleNodes.{length-left}
use Rattle.first_pass_grammar.proofs.Uniqueness.Unique.{ends_at_once}
use Rattle.first_pass_completion.proofs.States.{CompletesFrom, IsStep, OpenDefinitions, OpenNodes, Reading, reading, reading_at, with_inner}

-- the last block in a list that may continue
abbrev pub last_in : Joins → Bool → Last
last_in (ItemsOf byte) blanks = LastItem
last_in (DefinitionsTo e) blanks = LastDefinition blanks

-- the open nodes after the list at a place is closed, which ends at an offset
abbrev pub list_popped : OpenNodes → ℕ → Bool → ℕ → OpenNodes
list_popped w o loose e = record w { nodes = list_closed w.nodes o (suc (suc (suc (length w.places)))) loose e }

-- the open nodes after a definition list is closed, and the possible title after it becomes a paragraph
abbrev pub title_popped : OpenNodes → OpenDefinitions → ℕ → OpenNodes
title_popped w l at = record w { nodes = title_left (list_closed w.nodes l.place (suc (suc (suc (length w.places)))) l.loose l.«end») at }

-- The containers of a path end here after any block: where a further block would begin, the lines from there on, and
-- what is left for the blocks around them.
pub record EndHere (d : Document) (path : List Container) : Type 0 where
  pub from : Continues
  pub lines : List Place
  pub left : Remaining
  pub none : only_blanks from ≡ None
  pub ends : (before : Before) → next_block d.options (level path before) from lines ≡ Ends left

-- the end of a list in such containers
abbrev pub list_end : (d : Document) (path : List Container) → EndHere d path → ℕ
list_end d path h = end_of_left (length d.text) [] None h.left

-- they end before a line that does not continue them
abbrev pub end_before_line : (d : Document) (path : List Container) (lines : List Place) → next_goes_on path lines ≡ false → EndHere d path
end_before_line d path lines ends = record {
  from = Line;
  lines = lines;
  left = Lines lines;
  none = refl;
  ends = λ before. stops d.options (level path before) lines ends;
}

-- they end where a footnote definition begins after the one in which they end
abbrev pub end_in_line : (d : Document) (path : List Container) (p : Place) (lines : List Place) → ends_footnote (around d path) p ≡ true → EndHere d path
end_in_line d path p lines ends = record {
  from = Inside p;
  lines = lines;
  left = InLine p lines;
  none = refl;
  ends = λ before. ends_inside d.options (level path before) p lines ends;
}

-- A list that may continue is closed before the end of the container around it.
shut_step : (d : Document) (w : OpenNodes) (list : Pending) (t : Tail) (last : Last) (nodes : List (ℕ × Item)) (h : EndHere d (containers_of w.frames))
    → IsPlain w.frames
    → ((e : ℕ) → (only_blanks h.from ≡ None → e ≡ list_end d (containers_of w.frames) h)
    → rendered (suc (length w.places)) e w.nodes list End ≡ rendered (suc (length w.places)) e nodes (NoList t.closed) End)
    → any_gap (rows_beyond list End) ≡ any_gap (rows_beyond (NoList t.closed) End)
    → IsStep d (reading w list (stands_after last t.run) h.from h.lines) (reading_at (record w { nodes = nodes }) t h.from h.lines)
unfolding IsSequence rows_of before_end
shut_step d w list t last nodes h plain same gaps =
    let path : List Container = containers_of w.frames in
    let here : Before = stands_after last t.run in
    let closed : Before = before_of w.frames t in
    let old : Reading = reading w list here h.from h.lines in
    let next : Reading = reading (record w { nodes = nodes }) (NoList t.closed) closed h.from h.lines in
    extend_same d old next (λ s. s) (record {
      plain = plain;
      ends = λ path mid. refl;
      adds = λ s mid seq.
          let over = ends_at_once d s (level path closed) h.from h.lines h.left mid (h.ends closed) seq in
          subst (λ z. Adds d old next false z z mid) (sym over.0) (record {
            seq = h.ends here ∙ ap (λ (z : Remaining). Ends z) (sym over.1);
            items = λ e is. same e (λ none. is none ∙ ap (end_of_left (length d.text) [] None) over.1);
            counts = refl;
            gaps = λ e. gaps;
          });
      defines = λ s. refl;
    })

-- the same for a list of items or of definitions
pop_list_step : (d : Document) (w : OpenNodes) (list : Joins) (loose run blanks : Bool) (o : ℕ) (h : EndHere d (containers_of w.frames))
    → IsPlain w.frames
    → IsStep d (reading w (OneList o list loose) (stands_after (last_in list blanks) run) h.from h.lines)
    (reading_at (list_popped w o loose (list_end d (containers_of w.frames) h)) (tail OtherClosed run) h.from h.lines)
unfolding is_loose items_of rendered
pop_list_step d w list loose run blanks o h plain =
    shut_step d w (OneList o list loose) (tail OtherClosed run) (last_in list blanks) _ h plain
    (λ e is. rw (or-false loose, is h.none) refl) refl

pub closed_below : (nodes : List (ℕ × Item)) (o : ℕ) (os : List ℕ) (depth : ℕ) (loose : Bool) (e : ℕ) → AreBelow (length nodes) (o ∷ os)
    → AreBelow (length (list_closed nodes o depth loose e)) os
closed_below nodes o os depth loose e below =
    AreBelow-more o _ os (let l = length-closed nodes o depth loose e in let b : o < length nodes = below.0 in omega arith) below.1

pub title_below : (nodes : List (ℕ × Item)) (o : ℕ) (os : List ℕ) (depth : ℕ) (loose : Bool) (e at : ℕ) → AreBelow (length nodes) (o ∷ os)
    → AreBelow (length (title_left (list_closed nodes o depth loose e) at)) os
title_below nodes o os depth loose e at below = grind (arith, length-left, closed_below)

-- a list is closed with the container around it
pub completes-pop_list : (d : Document) (w : OpenNodes) (t : Tail) (byte : ℕ) (loose : Bool) (o : ℕ) (h : EndHere d (containers_of w.frames))
    → CompletesFrom d (with_inner w (InList byte loose) o) t h.from h.lines
    → CompletesFrom d (list_popped w o loose (list_end d (containers_of w.frames) h)) (tail OtherClosed t.run) h.from h.lines
unfolding Finish
completes-pop_list d w t byte loose o h k =
    stepped d _ _ _ _ _ _ _ _ k (pop_list_step d w (ItemsOf byte) loose t.run false o h k.shape.0)
    (closed_below w.nodes o w.places (suc (suc (suc (length w.places)))) loose (list_end d (containers_of w.frames) h) k.below, k.shape.1)

-- a definition list is closed in this way, after a definition
pub completes-pop_definitions : (d : Document) (w : OpenNodes) (l : OpenDefinitions) (blanks run : Bool) (h : EndHere d (containers_of w.frames))
    → CompletesFrom d (with_inner w (InDefinitions l.loose) l.place) (tail (DefinitionClosed l.«end» blanks) run) h.from h.lines
    → CompletesFrom d (list_popped w l.place l.loose (list_end d (containers_of w.frames) h)) (tail OtherClosed run) h.from h.lines
unfolding Finish
completes-pop_definitions d w l blanks run h k =
    stepped d _ _ _ _ _ _ _ _ k (pop_list_step d w (DefinitionsTo l.«end») l.loose run blanks l.place h k.shape.0)
    (closed_below w.nodes l.place w.places (suc (suc (suc (length w.places)))) l.loose (list_end d (containers_of w.frames) h) k.below, k.shape.1)

-- a definition list is closed in this way; the possible title after it becomes a paragraph
pub completes-pop_title : (d : Document) (w : OpenNodes) (l : OpenDefinitions) (at : ℕ) (run : Bool) (h : EndHere d (containers_of w.frames))
    → CompletesFrom d (with_inner w (InDefinitions l.loose) l.place) (tail (TitleAt l.«end» at) run) h.from h.lines
    → CompletesFrom d (title_popped w l at) (tail (ParagraphAt at) run) h.from h.lines
unfolding Finish definitions_first rendered
completes-pop_title d w l at run h k =
    stepped d _ _ _ _ _ _ _ _ k
    (shut_step d w (OneTitle l.place at l.«end» l.loose) (tail (ParagraphAt at) run) (LastParagraph true) _ h k.shape.0 (λ last is. refl) refl)
    (title_below w.nodes l.place w.places (suc (suc (suc (length w.places)))) l.loose l.«end» at k.below, k.shape.1)
