-- Complete pieces: what is known of them, and one sequence after another.
use Rattle.std.proofs.Common.{◌≡◌, ◌<◌, ◌||◌, Bool, true, false, List, [], ◌∷◌, ◌++◌, length, refl, sym, ap, subst, arith, append_assoc}
use Rattle.std.proofs.Common.{length-append, ℕ, Option, Some, None, if◌then◌else◌}
use Rattle.std.proofs.lemmas.Grind.{common_steps}
use Rattle.first_pass_inline.specs.declared.mark.Mark.{Mark}
use Rattle.first_pass_inline.specs.declared.mark.Span.{Span}
use Rattle.first_pass_inline.specs.declared.pair.Place.{Place}
use Rattle.first_pass_inline.specs.declared.pair.Verdict.{Verdict}
use Rattle.first_pass_inline.specs.declared.pair.Verdict.TheVariants.{Text, Undefined, Link, FootnoteReference, Name}
use Rattle.first_pass_inline.specs.Look.{Chain}
use Rattle.first_pass_inline.specs.Sequences.{Sequence, Ends, Single, Stray, Bracket, Paired, Where, outside, later, after_pair, first_of}
use Rattle.first_pass_inline.specs.Sequences.{first_pipe, has_pair, is_image, is_text, past, piece_pipe}
use Rattle.first_pass_inline.specs.Marks.{IsSequence, EndsAt, marks, pair_marks, note_marks}
use Rattle.first_pass_inline.specs.Open.{Reads, where_after}

-- the pieces of a sequence, and then another
abbrev pub followed : Sequence → Sequence → Sequence
followed Ends s = s
followed (Single m r) s = Single m (followed r s)
followed (Stray m r) s = Stray m (followed r s)
followed (Bracket m r) s = Bracket m (followed r s)
followed (Paired o x v inside r) s = Paired o x v inside (followed r s)

pub followed_marks : (t s : Sequence) → marks (followed t s) ≡ marks t ++ marks s
followed_marks Ends s = refl
followed_marks (Single m r) s = ap (λ (ms : List Mark). m ∷ ms) (followed_marks r s)
followed_marks (Stray m r) s = ap (λ (ms : List Mark). m ∷ ms) (followed_marks r s)
followed_marks (Bracket m r) s = ap (λ (ms : List Mark). m ∷ ms) (followed_marks r s)
followed_marks (Paired o x v inside r) s = rw (followed_marks r s) (simp append_assoc)

pub followed_has : (f : Bool → Verdict → Bool) (t s : Sequence) → has_pair f (followed t s) ≡ (has_pair f t || has_pair f s)
followed_has f Ends s = refl
followed_has f (Single m r) s = followed_has f r s
followed_has f (Stray m r) s = followed_has f r s
followed_has f (Bracket m r) s = followed_has f r s
followed_has f (Paired o x v inside r) s = grind (arith, common_steps, followed_has f r s)

first_assoc : (a b c : Option ℕ) → first_of a (first_of b c) ≡ first_of (first_of a b) c
first_assoc (Some n) b c = refl
first_assoc None b c = refl

pub first_none : (a : Option ℕ) → first_of a None ≡ a
first_none (Some n) = refl
first_none None = refl

pair_pipe : (text : Bool) (a b c : Option ℕ) → (if text then first_of a (first_of b c) else first_of b c) ≡ first_of (if text then first_of a b else b) c
pair_pipe true a b c = first_assoc a b c
pair_pipe false a b c = refl

pub followed_pipe : (c : Chain) (t s : Sequence) → first_pipe c (followed t s) ≡ first_of (first_pipe c t) (first_pipe c s)
followed_pipe c Ends s = refl
followed_pipe c (Single m r) s =
    rw (followed_pipe c r s) (first_assoc (piece_pipe c m m.kind) (first_pipe c r) (first_pipe c s))
followed_pipe c (Stray m r) s = followed_pipe c r s
followed_pipe c (Bracket m r) s = followed_pipe c r s
followed_pipe c (Paired o x v inside r) s =
    rw (followed_pipe c r s) (pair_pipe (is_text v) (first_pipe c inside) (first_pipe c r) (first_pipe c s))

-- where the piece after a sequence is
pub after_nested : (w : Where) (t : Sequence) → (where_after w t).nested ≡ w.nested
after_nested w Ends = refl
after_nested w (Single m r) = after_nested (later w) r
after_nested w (Stray m r) = after_nested (later w) r
after_nested w (Bracket m r) = after_nested (later w) r
after_nested w (Paired o x v inside r) = after_nested (after_pair w v) r

after_no_bracket : (w : Where) (t : Sequence) → w.directly ≡ false → (where_after w t).directly ≡ false
after_no_bracket w Ends h = h
after_no_bracket w (Single m r) h = after_no_bracket (later w) r refl
after_no_bracket w (Stray m r) h = after_no_bracket (later w) r refl
after_no_bracket w (Bracket m r) h = after_no_bracket (later w) r refl
after_no_bracket w (Paired o x v inside r) h = after_no_bracket (after_pair w v) r refl

pub after_some : (w : Where) (t : Sequence) → (t ≡ Ends → ⊥) → (where_after w t).directly ≡ false
after_some w Ends h = absurd (h refl)
after_some w (Single m r) h = after_no_bracket (later w) r refl
after_some w (Stray m r) h = after_no_bracket (later w) r refl
after_some w (Bracket m r) h = after_no_bracket (later w) r refl
after_some w (Paired o x v inside r) h = after_no_bracket (after_pair w v) r refl

pub after_outside : (t : Sequence) → (where_after outside t).directly ≡ false
after_outside t = after_no_bracket outside t refl

pub after_followed : (w : Where) (t s : Sequence) → where_after w (followed t s) ≡ where_after (where_after w t) s
after_followed w Ends s = refl
after_followed w (Single m r) s = after_followed (later w) r s
after_followed w (Stray m r) s = after_followed (later w) r s
after_followed w (Bracket m r) s = after_followed (later w) r s
after_followed w (Paired o x v inside r) s = after_followed (after_pair w v) r s

-- pieces after pieces
pub read_on : (c : Chain) (w : Where) (t s : Sequence) (p m q : Place) → Reads c w p t m → Reads c (where_after w t) m s q → Reads c w p (followed t s) q
read_on c w Ends s p m q h k = subst (λ (x : Place). Reads c w x s q) (sym h) k
read_on c w (Single mark r) s p m q (n, o, h) k = (n, o, read_on c (later w) r s n m q h k)
read_on c w (Stray mark r) s p m q (n, o, i, h) k = (n, o, i, read_on c (later w) r s n m q h k)
read_on c w (Bracket mark r) s p m q h k = absurd h
read_on c w (Paired opens closes v inside r) s p m q (n, close, b, o, i, l, is, h) k =
    (n, close, b, o, i, l, is, read_on c (after_pair w v) r s (past b v) m q h k)

-- a sequence after pieces
pub read_up : (c : Chain) (w : Where) (t s : Sequence) (p m q : Place) → Reads c w p t m → IsSequence c (where_after w t) m s q
    → IsSequence c w p (followed t s) q
read_up c w Ends s p m q h k = subst (λ (x : Place). IsSequence c w x s q) (sym h) k
read_up c w (Single mark r) s p m q (n, o, h) k = (n, o, read_up c (later w) r s n m q h k)
read_up c w (Stray mark r) s p m q (n, o, i, h) k = (n, o, i, read_up c (later w) r s n m q h k)
read_up c w (Bracket mark r) s p m q h k = absurd h
read_up c w (Paired opens closes v inside r) s p m q (n, close, b, o, i, l, is, h) k =
    (n, close, b, o, i, l, is, read_up c (after_pair w v) r s (past b v) m q h k)

-- pieces up to where a sequence ends
pub ended : (c : Chain) (w : Where) (t : Sequence) (p q : Place) → Reads c w p t q → EndsAt c w q → IsSequence c w p t q
ended c w Ends p q h k = (h, subst (EndsAt c w) (sym h) k)
ended c w (Single m r) p q (n, o, h) k = (n, o, ended c (later w) r n q h k)
ended c w (Stray m r) p q (n, o, i, h) k = (n, o, i, ended c (later w) r n q h k)
ended c w (Bracket m r) p q h k = absurd h
ended c w (Paired opens closes v inside r) p q (n, close, b, o, i, l, is, h) k =
    (n, close, b, o, i, l, is, ended c (after_pair w v) r (past b v) q h k)

-- a pair has a mark
note_some : (image : Bool) (a b x : Mark) → 0 < length (if image then a ∷ b ∷ [] else x ∷ [])
note_some true a b x = omega arith
note_some false a b x = omega arith

pair_some : (o x : Mark) (v : Verdict) (ms : List Mark) → 0 < length (pair_marks o x v ms)
pair_some o x Text ms = omega arith
pair_some o x (Undefined label at is_after) ms = omega arith
pair_some o x (Link target shown p) ms = omega arith
pair_some o x (FootnoteReference label) ms = note_some (is_image o) _ _ _
pair_some o x (Name n) ms = omega arith

-- pieces without a mark are none
pub no_marks : (t : Sequence) → length (marks t) ≡ 0 → t ≡ Ends
no_marks Ends h = refl
no_marks (Single m r) h = absurd (omega arith)
no_marks (Stray m r) h = absurd (omega arith)
no_marks (Bracket m r) h = absurd (omega arith)
no_marks (Paired o x v inside r) h =
    absurd (omega (arith, pair_some o x v (marks inside), length-append (pair_marks o x v (marks inside)) (marks r)))
