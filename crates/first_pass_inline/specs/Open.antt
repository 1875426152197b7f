-- The state of the walk: a sequence with a hole for each open bracket. Only contracts of private functions cite this.
use Rattle.std.specs.Prelude.{◌≡◌, ℕ, ◌+◌, ◌-◌, ◌==◌, ◌&&◌, nat_lt, slice_get, Bool, true, false, List, [], ◌∷◌, ◌++◌, length, Option, Some, None}
use Rattle.std.specs.Prelude.{if◌then◌else◌}
use Rattle.first_pass_atoms.specs.HtmlEnds.{IsKnownOf}
use Rattle.first_pass_inline.specs.declared.mark.Mark.{Mark}
use Rattle.first_pass_inline.specs.declared.mark.MarkKind.{MarkKind}
use Rattle.first_pass_inline.specs.declared.mark.MarkKind.TheVariants.{Name as NameMark}
use Rattle.first_pass_inline.specs.declared.mark.Name.{Name}
use Rattle.first_pass_inline.specs.declared.pair.Pair.{Pair}
use Rattle.first_pass_inline.specs.declared.pair.Place.{Place}
use Rattle.first_pass_inline.specs.declared.pair.Verdict.{Verdict}
use Rattle.first_pass_inline.specs.declared.pair.View.TheVariants.{Opens, Closes, Piece}
use Rattle.first_pass_inline.specs.declared.walk.Walk.{Walk}
use Rattle.first_pass_inline.specs.declared.walk.Opened.{Opened}
use Rattle.first_pass_inline.specs.Look.{Chain, look, span}
use Rattle.first_pass_inline.specs.Sequences.{Sequence, Ends, Single, Stray, Bracket, Paired, Where, outside, after_bracket, later, after_pair}
use Rattle.first_pass_inline.specs.Sequences.{has_pair, first_pipe, is_image, is_link, is_note, verdict, past}
use Rattle.first_pass_inline.specs.Marks.{IsSequence, marks, first_place}

-- complete pieces from one place up to another: a sequence whose end is open
abbrev pub Reads : Chain → Where → Place → Sequence → Place → Type 0
Reads c w p Ends q = p ≡ q
Reads c w p (Single m r) q = (n : Place) × (look c p ≡ Piece m n) × Reads c (later w) n r q
Reads c w p (Stray m r) q = (n : Place) × (look c p ≡ Closes m n) × (w.nested ≡ false) × Reads c (later w) n r q
Reads c w p (Bracket m r) q = ⊥
Reads c w p (Paired opens closes v inside r) q =
    (n : Place) × (close : Place) × (b : Place) × (look c p ≡ Opens opens n) × IsSequence c after_bracket n inside close
    × (look c close ≡ Closes closes b) × (v ≡ verdict c w opens closes b inside) × Reads c (after_pair w v) (past b v) r q

-- The levels of open brackets, the innermost last: the pieces before the first open bracket; the mark of a bracket, and
-- the pieces after it.
pub data Levels : Type 0 where
  Base : Sequence → Levels
  Inner : Levels → Mark → Sequence → Levels

-- where the piece after a sequence is
abbrev pub where_after : Where → Sequence → Where
where_after w Ends = w
where_after w (Single m r) = where_after (later w) r
where_after w (Stray m r) = where_after (later w) r
where_after w (Bracket m r) = where_after (later w) r
where_after w (Paired opens closes v inside r) = where_after (after_pair w v) r

-- where the next piece of the innermost level is
abbrev pub where_now : Levels → Where
where_now (Base t) = where_after outside t
where_now (Inner outer m t) = where_after after_bracket t

-- the pieces of the innermost level
abbrev pub innermost : Levels → Sequence
innermost (Base t) = t
innermost (Inner outer m t) = t

-- the levels from the start up to a place
abbrev pub AreLevels : Chain → Levels → Place → Type 0
AreLevels c (Base t) at = Reads c outside first_place t at
AreLevels c (Inner outer m t) at = (p : Place) × (n : Place) × AreLevels c outer p × (look c p ≡ Opens m n) × Reads c after_bracket n t at

-- the marks so far: an open bracket is text until it is closed
abbrev pub marks_so_far : Levels → List Mark
marks_so_far (Base t) = marks t
marks_so_far (Inner outer m t) = marks_so_far outer ++ m ∷ marks t

abbrev pub opened : Chain → Levels → Mark → Opened
opened c outer m = record {
  index = length (marks_so_far outer);
  mark = m;
  waited = (where_now outer).waited;
  pipe = first_pipe c (innermost outer);
}

-- the open brackets, the outermost first
abbrev pub stack_of : Chain → Levels → List Opened
stack_of c (Base t) = []
stack_of c (Inner outer m t) = stack_of c outer ++ opened c outer m ∷ []

-- the innermost open bracket is directly before the one whose mark has this index
abbrev pub is_directly_before : ℕ → Option Opened → Bool
is_directly_before index None = false
is_directly_before index (Some o) = nat_lt o.index index && index - o.index == 1

abbrev pub is_fresh : List Opened → ℕ → Bool
is_fresh stack index = is_directly_before index (slice_get stack (length stack - 1))

-- the name that a mark has
abbrev pub name_of_kind : MarkKind → Option Name
name_of_kind (NameMark n) = Some n
name_of_kind _ = None

abbrev pub name_of : Option Mark → Option Name
name_of (Some m) = name_of_kind m.kind
name_of None = None

-- the name that the mark after this one has
abbrev pub name_after : List Mark → ℕ → Option Name
name_after ms index = name_of (slice_get ms (index + 1))

-- the pair of an open bracket, which was the innermost one, and a closing one
abbrev pub pair_by : Walk → Opened → Mark → Place → Pair
pair_by walk bracket closes at = record {
  is_image = is_image bracket.mark;
  is_inner = is_fresh walk.brackets.items bracket.index;
  waited = bracket.waited;
  text = span bracket.mark.part.«end» closes.part.start;
  «end» = at;
  name = name_after walk.marks.items bracket.index;
  holds_link = nat_lt (length walk.brackets.items) walk.links;
  holds_note = nat_lt (length walk.brackets.items) walk.notes;
  pipe = walk.pipe;
}

-- how many brackets are open
abbrev pub depth : Levels → ℕ
depth (Base t) = 0
depth (Inner outer m t) = depth outer + 1

-- the number of open brackets, from the outermost on, that hold a pair of a kind: those outside of the last level that
-- has one
abbrev pub below : (Bool → Verdict → Bool) → Levels → ℕ
below f (Base t) = 0
below f (Inner outer m t) = if has_pair f t then depth outer + 1 else below f outer

abbrev pub note_pair : Bool → Verdict → Bool
note_pair image v = is_note v

-- the state of the walk before a place
pub record IsBefore (c : Chain) (walk : Walk) (at : Place) : Type 0 where
  pub levels : Levels
  pub are_levels : AreLevels c levels at
  pub marks_are : walk.marks.items ≡ marks_so_far levels
  pub stack_is : walk.brackets.items ≡ stack_of c levels
  pub links_are : walk.links ≡ below is_link levels
  pub notes_are : walk.notes ≡ below note_pair levels
  pub waited_is : walk.waited ≡ (where_now levels).waited
  pub pipe_is : walk.pipe ≡ first_pipe c (innermost levels)
  pub known : IsKnownOf c.bytes walk.ends

-- the same at a closing bracket, with the place after it, when the innermost open bracket is off the stack
pub record IsPopped (c : Chain) (walk : Walk) (bracket : Opened) (closes : Mark) (b : Place) : Type 0 where
  pub outer : Levels
  pub inside : Sequence
  pub at : Place
  pub closes_is : look c at ≡ Closes closes b
  pub are_levels : AreLevels c (Inner outer bracket.mark inside) at
  pub marks_are : walk.marks.items ≡ marks_so_far (Inner outer bracket.mark inside)
  pub index_is : bracket.index ≡ length (marks_so_far outer)
  pub waited_is : bracket.waited ≡ (where_now outer).waited
  pub outer_pipe_is : bracket.pipe ≡ first_pipe c (innermost outer)
  pub stack_is : walk.brackets.items ≡ stack_of c outer
  pub links_are : walk.links ≡ below is_link (Inner outer bracket.mark inside)
  pub notes_are : walk.notes ≡ below note_pair (Inner outer bracket.mark inside)
  pub pipe_is : walk.pipe ≡ first_pipe c inside
  pub known : IsKnownOf c.bytes walk.ends
