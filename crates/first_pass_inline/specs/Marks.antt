-- The sequence at a place, and the marks of a sequence.
use Rattle.std.specs.Prelude.{◌≡◌, ◌⊎◌, ℕ, ◌+◌, ◌-◌, Bool, true, false, if◌then◌else◌, not, List, [], ◌∷◌, ◌++◌, length, Option, Some, None}
use Rattle.first_pass_inline.specs.declared.mark.Mark.{Mark}
use Rattle.first_pass_inline.specs.declared.mark.MarkKind.TheVariants.{FootnoteReference as NoteMark, Link as LinkMark, LinkEnd, Name as NameMark}
use Rattle.first_pass_inline.specs.declared.mark.MarkKind.TheVariants.{NameEnd, Undefined as UndefinedMark}
use Rattle.first_pass_inline.specs.declared.mark.Span.{Span}
use Rattle.first_pass_inline.specs.declared.pair.Place.{Place}
use Rattle.first_pass_inline.specs.declared.pair.Verdict.{Verdict}
use Rattle.first_pass_inline.specs.declared.pair.Verdict.TheVariants.{Text, Undefined, Link, FootnoteReference, Name}
use Rattle.first_pass_inline.specs.declared.pair.View.TheVariants.{AtEnd, Opens, Closes, Piece}
use Rattle.first_pass_inline.specs.Look.{Chain, look, mark_of, place_with}
use Rattle.first_pass_inline.specs.Sequences.{Sequence, Ends, Single, Stray, Bracket, Paired, Where, outside, after_bracket, later, after_pair}
use Rattle.first_pass_inline.specs.Sequences.{has_pair, is_image, is_link, is_note, verdict, past}

-- a sequence ends at a place: where the content ends, or at a closing bracket if it is in brackets
abbrev pub EndsAt : Chain → Where → Place → Type 0
EndsAt c w p = (look c p ≡ AtEnd) ⊎ ((w.nested ≡ true) × (m : Mark) × (q : Place) × (look c p ≡ Closes m q))

-- The sequence of the pieces from one place up to another: up to the first closing bracket that closes none of their
-- brackets if it is in brackets, otherwise up to the end (CommonMark 6.3, and this project).
abbrev pub IsSequence : Chain → Where → Place → Sequence → Place → Type 0
IsSequence c w p Ends q = (p ≡ q) × EndsAt c w p
IsSequence c w p (Single m r) q = (n : Place) × (look c p ≡ Piece m n) × IsSequence c (later w) n r q
IsSequence c w p (Stray m r) q = (n : Place) × (look c p ≡ Closes m n) × (w.nested ≡ false) × IsSequence c (later w) n r q
IsSequence c w p (Bracket m r) q = (n : Place) × (look c p ≡ Opens m n) × IsSequence c after_bracket n r q × (look c q ≡ AtEnd)
IsSequence c w p (Paired opens closes v inside r) q =
    (n : Place) × (close : Place) × (b : Place) × (look c p ≡ Opens opens n) × IsSequence c after_bracket n inside close
    × (look c close ≡ Closes closes b) × (v ≡ verdict c w opens closes b inside) × IsSequence c (after_pair w v) (past b v) r q

-- the mark of the opening bracket of an undefined reference, given how many marks further the first one after the pair
-- is
abbrev pub undefined_mark : Mark → Span → ℕ → Bool → ℕ → Mark
undefined_mark opens label at is_after count = record {
  part = opens.part;
  kind = UndefinedMark (record { label = label; «end» = at; wait = (if is_after then count else 0) });
}

-- The marks of a footnote reference, from its `[` to its `]`. The exclamation mark of an image before it is text (this
-- project).
abbrev pub note_marks : Mark → Mark → Span → List Mark
note_marks opens closes label =
    if is_image opens
    then mark_of opens.part.start (opens.part.«end» - 1) opens.kind ∷ mark_of (opens.part.«end» - 1) closes.part.«end» (NoteMark label) ∷ []
    else mark_of opens.part.start closes.part.«end» (NoteMark label) ∷ []

-- the marks of a pair, given those of the pieces in it
abbrev pub pair_marks : Mark → Mark → Verdict → List Mark → List Mark
pair_marks opens closes Text ms = opens ∷ (ms ++ closes ∷ [])
pair_marks opens closes (Undefined label at is_after) ms = undefined_mark opens label at is_after (length ms + 2) ∷ (ms ++ closes ∷ [])
pair_marks opens closes (Link target shown p) ms =
    record { part = opens.part; kind = LinkMark (record { is_image = is_image opens; target = target; shown = shown; «end» = p.offset }) }
    ∷ (ms ++ mark_of closes.part.start p.offset LinkEnd ∷ [])
pair_marks opens closes (FootnoteReference label) ms = note_marks opens closes label
pair_marks opens closes (Name n) ms =
    record { part = opens.part; kind = NameMark n } ∷ (ms ++ record { part = closes.part; kind = NameEnd } ∷ [])

-- the marks of a sequence
abbrev pub marks : Sequence → List Mark
marks Ends = []
marks (Single m r) = m ∷ marks r
marks (Stray m r) = m ∷ marks r
marks (Bracket m r) = m ∷ marks r
marks (Paired opens closes v inside r) = pair_marks opens closes v (marks inside) ++ marks r

-- the start of a content
abbrev pub first_place : Place
first_place = place_with 0 0

-- these are the marks of the sequence of a whole chain
pub record AreMarks (c : Chain) (ms : List Mark) : Type 0 where
  pub sequence : Sequence
  pub last : Place
  pub is_sequence : IsSequence c outside first_place sequence last
  pub of_sequence : ms ≡ marks sequence
