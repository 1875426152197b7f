-- The levels of open brackets: a piece more, and the whole sequence once the content has ended.
use Rattle.std.proofs.Common.{◌≡◌, ap, List, inl, ◌≤◌, Bool, ◌++◌, length, refl, sym, ◌∙◌, arith, append_assoc, append-nil, if◌then◌else◌}
use Rattle.std.proofs.lemmas.Grind.{common_steps}
use Rattle.std.proofs.lemmas.Bool.{cases_Bool}
use Rattle.first_pass_inline.specs.declared.mark.Mark.{Mark}
use Rattle.first_pass_inline.specs.declared.pair.Place.{Place}
use Rattle.first_pass_inline.specs.declared.pair.Verdict.{Verdict}
use Rattle.first_pass_inline.specs.declared.pair.View.TheVariants.{AtEnd}
use Rattle.first_pass_inline.specs.Look.{Chain, look}
use Rattle.first_pass_inline.specs.Sequences.{Sequence, Ends, Bracket, outside, after_bracket, first_of, first_pipe, has_pair}
use Rattle.first_pass_inline.specs.Marks.{IsSequence, marks, first_place, AreMarks}
use Rattle.first_pass_inline.specs.Open.{Reads, Levels, Base, Inner, AreLevels, where_after, where_now, innermost, marks_so_far, stack_of, depth, below}
use Rattle.first_pass_inline.proofs.Pieces.{followed, after_followed, followed_marks, followed_has, followed_pipe, read_on, read_up}

-- the levels with more pieces in the innermost one
abbrev pub added : Levels → Sequence → Levels
added (Base t) s = Base (followed t s)
added (Inner outer m t) s = Inner outer m (followed t s)

pub added_levels : (c : Chain) (ls : Levels) (s : Sequence) (m q : Place) → AreLevels c ls m → Reads c (where_now ls) m s q → AreLevels c (added ls s) q
added_levels c (Base t) s m q h k = read_on c outside t s first_place m q h k
added_levels c (Inner outer mark t) s m q (p, n, h, o, r) k = (p, n, h, o, read_on c after_bracket t s n m q r k)

pub added_marks : (ls : Levels) (s : Sequence) → marks_so_far (added ls s) ≡ marks_so_far ls ++ marks s
added_marks (Base t) s = followed_marks t s
added_marks (Inner outer m t) s = rw (followed_marks t s) (simp append_assoc)

pub added_where : (ls : Levels) (s : Sequence) → where_now (added ls s) ≡ where_after (where_now ls) s
added_where (Base t) s = after_followed outside t s
added_where (Inner outer m t) s = after_followed after_bracket t s

pub added_stack : (c : Chain) (ls : Levels) (s : Sequence) → stack_of c (added ls s) ≡ stack_of c ls
added_stack c (Base t) s = refl
added_stack c (Inner outer m t) s = refl

pub added_pipe : (c : Chain) (ls : Levels) (s : Sequence) → first_pipe c (innermost (added ls s)) ≡ first_of (first_pipe c (innermost ls)) (first_pipe c s)
added_pipe c (Base t) s = followed_pipe c t s
added_pipe c (Inner outer m t) s = followed_pipe c t s

pub added_below : (f : Bool → Verdict → Bool) (ls : Levels) (s : Sequence) → below f (added ls s) ≡ (if has_pair f s then depth ls else below f ls)
added_below f (Base t) s = grind (arith, common_steps, cases_Bool)
added_below f (Inner outer m t) s = grind (arith, common_steps, followed_has f t s, cases_Bool)

pub stack_length : (c : Chain) (ls : Levels) → length (stack_of c ls) ≡ depth ls
stack_length c (Base t) = refl
stack_length c (Inner outer m t) = grind (arith, common_steps, stack_length c outer)

pub below_within : (f : Bool → Verdict → Bool) (ls : Levels) → below f ls ≤ depth ls
below_within f (Base t) = omega arith
below_within f (Inner outer m t) = grind (arith, common_steps, below_within f outer, cases_Bool)

-- the whole sequence, if that of the innermost level ends with the content: each open bracket is text
abbrev pub whole : Levels → Sequence → Sequence
whole (Base t) s = followed t s
whole (Inner outer m t) s = whole outer (Bracket m (followed t s))

pub whole_marks : (ls : Levels) (s : Sequence) → marks (whole ls s) ≡ marks_so_far ls ++ marks s
whole_marks (Base t) s = followed_marks t s
whole_marks (Inner outer m t) s = whole_marks outer (Bracket m (followed t s)) ∙ rw (followed_marks t s) (simp append_assoc)

pub whole_sequence : (c : Chain) (ls : Levels) (s : Sequence) (at q : Place) → AreLevels c ls at → look c q ≡ AtEnd → IsSequence c (where_now ls) at s q
    → IsSequence c outside first_place (whole ls s) q
whole_sequence c (Base t) s at q h e k = read_up c outside t s first_place at q h k
whole_sequence c (Inner outer m t) s at q (p, n, h, o, r) e k =
    whole_sequence c outer (Bracket m (followed t s)) p q h e (n, o, read_up c after_bracket t s n at q r k, e)

-- where the content ends, the marks so far are those of the whole sequence
pub end_marks : (c : Chain) (ls : Levels) (at : Place) (ms : List Mark) → AreLevels c ls at → look c at ≡ AtEnd → ms ≡ marks_so_far ls → AreMarks c ms
end_marks c ls at ms h e is = record {
  sequence = whole ls Ends;
  last = at;
  is_sequence = whole_sequence c ls Ends at at h e (refl, inl e);
  of_sequence = is ∙ sym (whole_marks ls Ends ∙ append-nil (marks_so_far ls));
}
