-- The steps of the walk.
use Rattle.std.proofs.Common.{◌≡◌, inr, ℕ, zero, suc, ◌+◌, ◌-◌, ◌≤◌, ◌<◌, ◌==◌, ◌&&◌, ◌||◌, nat_lt, Bool, true, false, List, [], ◌∷◌, ◌++◌, length}
use Rattle.std.proofs.Common.{take, drop, slice_get, Option, Some, None, refl, sym, ap, ◌∙◌, subst, arith, append-nil, length-append, if◌then◌else◌}
use Rattle.std.proofs.lemmas.Grind.{common_steps}
use Rattle.std.proofs.Math.Seq.{take-append_seam, drop-append-add}
use Rattle.std.proofs.lemmas.Bool.{cases_Bool}
use Rattle.std.proofs.lemmas.Bool.Decides.{nat_tests}
use Rattle.std.proofs.lemmas.Option.{slice_get_past}
use Rattle.first_pass_atoms.specs.HtmlEnds.{IsKnownOf}
use Rattle.first_pass_inline.specs.declared.mark.Mark.{Mark}
use Rattle.first_pass_inline.specs.declared.mark.Name.{Name}
use Rattle.first_pass_inline.specs.declared.pair.Pair.{Pair}
use Rattle.first_pass_inline.specs.declared.pair.Place.{Place}
use Rattle.first_pass_inline.specs.declared.pair.Verdict.{Verdict}
use Rattle.first_pass_inline.specs.declared.pair.Verdict.TheVariants.{Text, Undefined, Link, FootnoteReference, Name as NamePair}
use Rattle.first_pass_inline.specs.declared.pair.View.TheVariants.{AtEnd, Opens, Closes, Piece}
use Rattle.first_pass_inline.specs.declared.walk.Opened.{Opened}
use Rattle.first_pass_inline.specs.declared.walk.Walk.{Walk}
use Rattle.first_pass_inline.specs.Look.{AreWhole, Chain, look}
use Rattle.first_pass_inline.specs.Sequences.{IsWholePair, Sequence, Ends, Single, Stray, Bracket, Paired, Where, outside, after_bracket, waits}
use Rattle.first_pass_inline.specs.Sequences.{has_pair, holds_link, holds_note, first_name, first_of, first_pipe, is_image, is_link, is_note}
use Rattle.first_pass_inline.specs.Sequences.{is_text, judged, pair_of, verdict, past, piece_pipe}
use Rattle.first_pass_inline.specs.Marks.{marks, pair_marks, note_marks, first_place, AreMarks}
use Rattle.first_pass_inline.specs.Open.{Reads, Levels, Base, Inner, AreLevels, where_after, where_now, innermost, marks_so_far, opened, stack_of}
use Rattle.first_pass_inline.specs.Open.{depth, below, is_fresh, name_of, name_after, note_pair, pair_by, IsBefore, IsPopped}
use Rattle.first_pass_inline.proofs.Pieces.{ended, after_outside, after_nested, after_some, first_none, no_marks}
use Rattle.first_pass_inline.proofs.Plain.{IsSound, first_named, look_sound}
use Rattle.first_pass_inline.proofs.Levels.{added, added_levels, added_marks, added_where, added_stack, added_pipe, added_below, stack_length}
use Rattle.first_pass_inline.proofs.Levels.{below_within, end_marks}

pub empty : {A : Type 0} (xs : List A) → length xs ≡ 0 → xs ≡ []
empty [] h = refl
empty (x ∷ xs) h = absurd (omega arith)

pub begins : (c : Chain) (walk : Walk) → walk.marks.items ≡ [] → walk.brackets.items ≡ [] → walk.links ≡ 0 → walk.notes ≡ 0 → walk.waited ≡ false
    → walk.pipe ≡ None
    → IsKnownOf c.bytes walk.ends → IsBefore c walk first_place
begins c walk ms os k m u p e = record {
  levels = Base Ends;
  are_levels = refl;
  marks_are = ms;
  stack_is = os;
  links_are = k;
  notes_are = m;
  waited_is = u;
  pipe_is = p;
  known = e;
}

pub ends : (c : Chain) (walk : Walk) (at : Place) → IsBefore c walk at → look c at ≡ AtEnd → AreMarks c walk.marks.items
ends c walk at h e = end_marks c h.levels at walk.marks.items h.are_levels e h.marks_are

-- one more piece of the innermost level
module _ (c : Chain) (ls : Levels) (new : Walk) (at q : Place) (s : Sequence) where
  piece_read : AreLevels c ls at → Reads c (where_now ls) at s q → new.marks.items ≡ marks_so_far ls ++ marks s → new.brackets.items ≡ stack_of c ls
      → new.links ≡ (if has_pair is_link s then depth ls else below is_link ls) → new.notes ≡ (if has_pair note_pair s then depth ls else below note_pair ls)
      → new.waited ≡ (where_after (where_now ls) s).waited → new.pipe ≡ first_of (first_pipe c (innermost ls)) (first_pipe c s) → IsKnownOf c.bytes new.ends
      → IsBefore c new q
  piece_read h r ms os k m u p e = record {
    levels = added ls s;
    are_levels = added_levels c ls s at q h r;
    marks_are = ms ∙ sym (added_marks ls s);
    stack_is = os ∙ sym (added_stack c ls s);
    links_are = k ∙ sym (added_below is_link ls s);
    notes_are = m ∙ sym (added_below note_pair ls s);
    waited_is = u ∙ ap (λ (w : Where). w.waited) (sym (added_where ls s));
    pipe_is = p ∙ sym (added_pipe c ls s);
    known = e;
  }

-- the walk has one mark more, and nothing else is new but its pipe
pub record IsWithMark (c : Chain) (old new : Walk) (m : Mark) (pipe : Option ℕ) : Type 0 where
  pub marks_are : new.marks.items ≡ old.marks.items ++ m ∷ []
  pub brackets_are : new.brackets.items ≡ old.brackets.items
  pub links_are : new.links ≡ old.links
  pub notes_are : new.notes ≡ old.notes
  pub waited_is : new.waited ≡ false
  pub pipe_is : new.pipe ≡ pipe
  pub known : IsKnownOf c.bytes new.ends

pub single_read : (c : Chain) (old new : Walk) (at q : Place) (m : Mark) → IsBefore c old at → look c at ≡ Piece m q
    → IsWithMark c old new m (first_of old.pipe (piece_pipe c m m.kind)) → IsBefore c new q
single_read c old new at q m h o is =
    piece_read c h.levels new at q (Single m Ends) h.are_levels (q, o, refl) (is.marks_are ∙ ap (λ (x : List Mark). x ++ m ∷ []) h.marks_are)
    (is.brackets_are ∙ h.stack_is) (is.links_are ∙ h.links_are) (is.notes_are ∙ h.notes_are) is.waited_is
    (is.pipe_is ∙ ap (λ p. first_of p (piece_pipe c m m.kind)) h.pipe_is ∙ ap (first_of (first_pipe c (innermost h.levels)))
    (sym (first_none (piece_pipe c m m.kind))))
    is.known

snoc_not_nil : {A : Type 0} (xs : List A) (x : A) → xs ++ x ∷ [] ≡ [] → ⊥
snoc_not_nil [] x h = cc
snoc_not_nil (y ∷ ys) x h = cc

-- a closing bracket when no bracket is open
pub stray_read : (c : Chain) (old new : Walk) (at q : Place) (m : Mark) → IsBefore c old at → old.brackets.items ≡ [] → look c at ≡ Closes m q
    → IsWithMark c old new m old.pipe → IsBefore c new q
stray_read c old new at q m h none o is =
    piece_read c h.levels new at q (Stray m Ends) h.are_levels (q, o, at_base h.levels (sym h.stack_is ∙ none), refl)
    (is.marks_are ∙ ap (λ (x : List Mark). x ++ m ∷ []) h.marks_are) (is.brackets_are ∙ h.stack_is) (is.links_are ∙ h.links_are)
    (is.notes_are ∙ h.notes_are) is.waited_is (is.pipe_is ∙ h.pipe_is ∙ sym (first_none (first_pipe c (innermost h.levels)))) is.known
  where
    at_base : (ls : Levels) → stack_of c ls ≡ [] → (where_now ls).nested ≡ false
    at_base (Base t) e = after_nested outside t
    at_base (Inner outer mark t) e = absurd (snoc_not_nil (stack_of c outer) _ e)

-- an opening bracket
pub record IsWithBracket (old new : Walk) (m : Mark) : Type 0 where
  pub marks_are : new.marks.items ≡ old.marks.items ++ m ∷ []
  pub brackets_are : new.brackets.items
      ≡ old.brackets.items ++ record { index = length old.marks.items; mark = m; waited = old.waited; pipe = old.pipe } ∷ []
  pub links_are : new.links ≡ old.links
  pub notes_are : new.notes ≡ old.notes
  pub waited_is : new.waited ≡ false
  pub pipe_is : new.pipe ≡ None
  pub ends_are : new.ends ≡ old.ends

pub open_read : (c : Chain) (old new : Walk) (at q : Place) (m : Mark) → IsBefore c old at → look c at ≡ Opens m q → IsWithBracket old new m → IsBefore c new q
open_read c old new at q m h o is = record {
  levels = Inner h.levels m Ends;
  are_levels = (at, q, h.are_levels, o, refl);
  marks_are = is.marks_are ∙ ap (λ (x : List Mark). x ++ m ∷ []) h.marks_are;
  stack_is = is.brackets_are ∙ (rw (h.marks_are, h.stack_is, h.waited_is, h.pipe_is) refl);
  links_are = is.links_are ∙ h.links_are;
  notes_are = is.notes_are ∙ h.notes_are;
  waited_is = is.waited_is;
  pipe_is = is.pipe_is;
  known = subst (IsKnownOf c.bytes) (sym is.ends_are) h.known;
}

snoc_same : {A : Type 0} (xs ys : List A) (x y : A) → xs ++ x ∷ [] ≡ ys ++ y ∷ [] → (xs ≡ ys) × (x ≡ y)
snoc_same [] [] x y h = (refl, cc)
snoc_same [] (b ∷ ys) x y h = absurd (snoc_not_nil ys y (cc))
snoc_same (a ∷ xs) [] x y h = absurd (snoc_not_nil xs x (cc))
snoc_same (a ∷ xs) (b ∷ ys) x y h =
    let tails : xs ++ x ∷ [] ≡ ys ++ y ∷ [] = cc in
    let same = snoc_same xs ys x y tails in
    let front : xs ≡ ys = same.0 in
    (cc, same.1)

-- the innermost open bracket is off the stack
pub record IsWithout (old new : Walk) (bracket : Opened) : Type 0 where
  pub marks_are : new.marks.items ≡ old.marks.items
  pub brackets_are : old.brackets.items ≡ new.brackets.items ++ bracket ∷ []
  pub links_are : new.links ≡ old.links
  pub notes_are : new.notes ≡ old.notes
  pub pipe_is : new.pipe ≡ old.pipe

pub popped : (c : Chain) (old new : Walk) (at b : Place) (bracket : Opened) (m : Mark) → IsBefore c old at → IsWithout old new bracket
    → IsKnownOf c.bytes new.ends → look c at ≡ Closes m b → IsPopped c new bracket m b
popped c old new at b bracket m h is e o =
    of_levels h.levels h.are_levels (is.marks_are ∙ h.marks_are) (sym h.stack_is ∙ is.brackets_are) (is.links_are ∙ h.links_are) (is.notes_are ∙ h.notes_are)
    (is.pipe_is ∙ h.pipe_is)
  where
    of_levels : (ls : Levels) → AreLevels c ls at → new.marks.items ≡ marks_so_far ls → stack_of c ls ≡ new.brackets.items ++ bracket ∷ []
        → new.links ≡ below is_link ls → new.notes ≡ below note_pair ls → new.pipe ≡ first_pipe c (innermost ls) → IsPopped c new bracket m b
    of_levels (Base t) a p s l n q = absurd (snoc_not_nil new.brackets.items bracket (sym s))
    of_levels (Inner outer mark t) a p s l n q =
        let same = snoc_same (stack_of c outer) new.brackets.items (opened c outer mark) bracket s in
        subst (λ (x : Opened). IsPopped c new x m b) same.1 (record {
          outer = outer;
          inside = t;
          at = at;
          closes_is = o;
          are_levels = a;
          marks_are = p;
          index_is = refl;
          waited_is = refl;
          outer_pipe_is = refl;
          stack_is = sym same.0;
          links_are = l;
          notes_are = n;
          pipe_is = q;
          known = e;
        })

-- the mark after a bracket's is that of a name if the pieces in it begin with a name; no token has the mark of a name
pub get_after : {A : Type 0} (xs : List A) (y : A) (ys : List A) → slice_get (xs ++ y ∷ ys) (length xs + 1) ≡ slice_get ys 0
get_after [] y ys = refl
get_after (x ∷ xs) y ys =
    let on : suc (length xs) + 1 ≡ suc (length xs + 1) = omega arith in
    subst (λ (i : ℕ). slice_get (x ∷ (xs ++ y ∷ ys)) i ≡ slice_get ys 0) (sym on) (get_after xs y ys)

get_last : {A : Type 0} (xs : List A) (y : A) → slice_get (xs ++ y ∷ []) (length (xs ++ y ∷ []) - 1) ≡ Some y
get_last xs y =
    let size : length (xs ++ y ∷ []) - 1 ≡ length xs = simp length-append (omega arith) in
    subst (λ (i : ℕ). slice_get (xs ++ y ∷ []) i ≡ Some y) (sym size) (get_seam xs y)
  where
    get_seam : {A : Type 0} (xs : List A) (y : A) → slice_get (xs ++ y ∷ []) (length xs) ≡ Some y
    get_seam [] y = refl
    get_seam (x ∷ xs) y = get_seam xs y

next_is : (a b n : ℕ) → b ≡ a + 1 + n → (nat_lt a b && b - a == 1) ≡ (n == 0)
next_is a b zero h = grind (arith, nat_tests)
next_is a b (suc n) h = grind (arith, nat_tests)

-- the bracket is directly after another if nothing has been read there
fresh_is : (c : Chain) (outer : Levels) → is_fresh (stack_of c outer) (length (marks_so_far outer)) ≡ (where_now outer).directly
fresh_is c (Base t) = sym (after_outside t)
fresh_is c (Inner outer m t) =
    let size : length (marks_so_far (Inner outer m t)) ≡ length (marks_so_far outer) + 1 + length (marks t) = simp length-append (omega arith) in
    rw (get_last (stack_of c outer) (opened c outer m))
    (next_is (length (marks_so_far outer)) (length (marks_so_far (Inner outer m t))) (length (marks t)) size ∙ directly t)
  where
    none : (t : Sequence) → (t ≡ Ends → ⊥) → (length (marks t) == 0) ≡ false
    none t h = some (length (marks t)) (λ e. h (no_marks t e))
      where
        some : (n : ℕ) → (n ≡ 0 → ⊥) → n == 0 ≡ false
        some n h = grind (arith, nat_tests)

    directly : (t : Sequence) → (length (marks t) == 0) ≡ (where_after after_bracket t).directly
    directly Ends = refl
    directly (Single m r) = none (Single m r) (λ e. cc) ∙ sym (after_some after_bracket (Single m r) (λ e. cc))
    directly (Stray m r) = none (Stray m r) (λ e. cc) ∙ sym (after_some after_bracket (Stray m r) (λ e. cc))
    directly (Bracket m r) = none (Bracket m r) (λ e. cc) ∙ sym (after_some after_bracket (Bracket m r) (λ e. cc))
    directly (Paired o x v inside r) = none (Paired o x v inside r) (λ e. cc) ∙ sym (after_some after_bracket (Paired o x v inside r) (λ e. cc))

module _ (c : Chain) (walk : Walk) (bracket : Opened) (m : Mark) (b : Place) (p : IsPopped c walk bracket m b) where
  pub popped_whole : AreWhole c → IsWholePair c (pair_by walk bracket m b)
  popped_whole whole = (
    (subst (IsSound c.bytes) p.are_levels.3 (look_sound c whole p.are_levels.0)).1,
    (subst (IsSound c.bytes) p.closes_is (look_sound c whole p.at)).1,
  )

  pub popped_within : bracket.index < length walk.marks.items
  popped_within = rw (p.marks_are, p.index_is) (simp length-append (omega arith))

  number_size : length walk.brackets.items ≡ depth p.outer
  number_size = ap length p.stack_is ∙ stack_length c p.outer

  -- the bracket holds a pair of a kind if it is among those below the number
  holds : (f : Bool → Verdict → Bool) (j : ℕ) → j ≡ below f (Inner p.outer bracket.mark p.inside) → nat_lt (length walk.brackets.items) j ≡ has_pair f p.inside
  holds f j h = grind (arith, nat_tests, cases_Bool, number_size, below_within f p.outer)

  number : (f : Bool → Verdict → Bool) (j : ℕ) (o x : Mark) (v : Verdict) → j ≡ below f (Inner p.outer bracket.mark p.inside)
      → (if (f (is_image o) v || nat_lt (length walk.brackets.items) j) then length walk.brackets.items else j)
      ≡ (if has_pair f (Paired o x v p.inside Ends) then depth p.outer else below f p.outer)
  number f j o x v h = grind (arith, common_steps, cases_Bool, holds f j h, number_size, h)

  inside_is : AreWhole c → pair_by walk bracket m b ≡ pair_of c (where_now p.outer) bracket.mark m b p.inside
  inside_is whole =
      let fresh : is_fresh walk.brackets.items bracket.index ≡ (where_now p.outer).directly = rw (p.stack_is, p.index_is) (fresh_is c p.outer) in
      let inner = ended c after_bracket p.inside p.are_levels.1 p.at p.are_levels.4 (inr (refl, m, b, p.closes_is)) in
      let name : name_after walk.marks.items bracket.index ≡ first_name p.inside =
      rw (p.marks_are, p.index_is, get_after (marks_so_far p.outer) bracket.mark (marks p.inside))
      (first_named c whole after_bracket p.are_levels.1 p.at p.inside inner) in
      let links : nat_lt (length walk.brackets.items) walk.links ≡ holds_link p.inside = holds is_link walk.links p.links_are in
      let notes : nat_lt (length walk.brackets.items) walk.notes ≡ holds_note p.inside = holds note_pair walk.notes p.notes_are in
      rw (fresh, p.waited_is, name, links, notes, p.pipe_is) refl

  -- the pair is read
  pub pair_read : AreWhole c → (new : Walk) (v : Verdict) → v ≡ judged c (pair_by walk bracket m b)
      → new.marks.items ≡ take bracket.index walk.marks.items ++ pair_marks bracket.mark m v (drop (bracket.index + 1) walk.marks.items)
      → new.brackets.items ≡ walk.brackets.items
      → new.links ≡ (if (is_link (is_image bracket.mark) v || nat_lt (length walk.brackets.items) walk.links) then length walk.brackets.items else walk.links)
      → new.notes ≡ (if (is_note v || nat_lt (length walk.brackets.items) walk.notes) then length walk.brackets.items else walk.notes) → new.waited ≡ waits v
      → new.pipe ≡ first_of bracket.pipe (if is_text v then walk.pipe else None) → IsKnownOf c.bytes new.ends → IsBefore c new (past b v)
  pair_read whole new v is ms os k n u t e =
      let known : v ≡ verdict c (where_now p.outer) bracket.mark m b p.inside = is ∙ ap (judged c) (inside_is whole) in
      let front : take bracket.index walk.marks.items ≡ marks_so_far p.outer =
      rw (p.marks_are, p.index_is) (take-append_seam (marks_so_far p.outer) (bracket.mark ∷ marks p.inside)) in
      let back : drop (bracket.index + 1) walk.marks.items ≡ marks p.inside =
      rw (p.marks_are, p.index_is) (drop-append-add (marks_so_far p.outer) (bracket.mark ∷ marks p.inside) 1) in
      let pair : Sequence = Paired bracket.mark m v p.inside Ends in
      let shown : marks pair ≡ pair_marks bracket.mark m v (marks p.inside) = append-nil (pair_marks bracket.mark m v (marks p.inside)) in
      let inner = ended c after_bracket p.inside p.are_levels.1 p.at p.are_levels.4 (inr (refl, m, b, p.closes_is)) in
      let all : new.marks.items ≡ marks_so_far p.outer ++ marks pair = ms ∙ (rw (front, back, shown) refl) in
      let pipes : first_of bracket.pipe (if is_text v then walk.pipe else None) ≡ first_of (first_pipe c (innermost p.outer)) (first_pipe c pair) =
      rw (p.outer_pipe_is, p.pipe_is) (ap (first_of (first_pipe c (innermost p.outer))) (pair_pipe (is_text v) (first_pipe c p.inside))) in
      piece_read c p.outer new p.are_levels.0 (past b v) pair p.are_levels.2
      (p.are_levels.1, p.at, b, p.are_levels.3, inner, p.closes_is, known, refl) all (os ∙ p.stack_is)
      (k ∙ number is_link walk.links bracket.mark m v p.links_are) (n ∙ number note_pair walk.notes bracket.mark m v p.notes_are) u (t ∙ pipes) e
    where
      pair_pipe : (text : Bool) (inside : Option ℕ) → (if text then inside else None) ≡ (if text then first_of inside None else None)
      pair_pipe true inside = sym (first_none inside)
      pair_pipe false inside = refl

pub at_end : (c : Chain) (at : Place) → length c.tokens ≤ at.index → look c at ≡ AtEnd
unfolding look
at_end c at h = rw (slice_get_past c.tokens at.index h) refl
