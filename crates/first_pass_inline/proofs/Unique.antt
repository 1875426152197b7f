-- A place has one sequence.
use Rattle.std.proofs.Common.{◌≡◌, inl, inr, Bool, false, List, refl, sym, ap, ◌∙◌, subst}
use Rattle.first_pass_inline.specs.declared.mark.Mark.{Mark}
use Rattle.first_pass_inline.specs.declared.pair.Place.{Place}
use Rattle.first_pass_inline.specs.declared.pair.Verdict.{Verdict}
use Rattle.first_pass_inline.specs.declared.pair.View.TheVariants.{Opens, Closes, Piece}
use Rattle.first_pass_inline.specs.Look.{Chain, look}
use Rattle.first_pass_inline.specs.Sequences.{Sequence, Ends, Single, Stray, Bracket, Paired, Where, outside, after_bracket, later, after_pair, past}
use Rattle.first_pass_inline.specs.Marks.{IsSequence, EndsAt, marks, first_place, AreMarks}

ends_no_piece : (c : Chain) (w : Where) (p n : Place) (m : Mark) → EndsAt c w p → look c p ≡ Piece m n → ⊥
ends_no_piece c w p n m (inl e) o = cc
ends_no_piece c w p n m (inr (i, x, q, e)) o = cc

ends_no_stray : (c : Chain) (w : Where) (p n : Place) (m : Mark) → EndsAt c w p → look c p ≡ Closes m n → w.nested ≡ false → ⊥
ends_no_stray c w p n m (inl e) o h = cc
ends_no_stray c w p n m (inr (i, x, q, e)) o h = cc

ends_no_open : (c : Chain) (w : Where) (p n : Place) (m : Mark) → EndsAt c w p → look c p ≡ Opens m n → ⊥
ends_no_open c w p n m (inl e) o = cc
ends_no_open c w p n m (inr (i, x, q, e)) o = cc

pub only : (c : Chain) (w : Where) (t s : Sequence) (p q u : Place) → IsSequence c w p t q → IsSequence c w p s u → (t ≡ s) × (q ≡ u)
only c w Ends Ends p q u h k = (refl, sym h.0 ∙ k.0)
only c w Ends (Single m r) p q u h (n, o, k) = absurd (ends_no_piece c w p n m h.1 o)
only c w Ends (Stray m r) p q u h (n, o, i, k) = absurd (ends_no_stray c w p n m h.1 o i)
only c w Ends (Bracket m r) p q u h (n, o, k, e) = absurd (ends_no_open c w p n m h.1 o)
only c w Ends (Paired m x v inside r) p q u h (n, close, b, o, i, l, is, k) = absurd (ends_no_open c w p n m h.1 o)
only c w (Single m r) Ends p q u (n, o, h) k = absurd (ends_no_piece c w p n m k.1 o)
only c w (Single m r) (Single m' s) p q u (n, o, h) (n', o', k) =
    let there : n ≡ n' = cc in
    let mark : m ≡ m' = cc in
    let same = only c (later w) r s n q u h (subst (λ (x : Place). IsSequence c (later w) x s u) (sym there) k) in
    let front : r ≡ s = same.0 in
    (cc, same.1)
only c w (Single m r) (Stray m' s) p q u (n, o, h) (n', o', i', k) = cc
only c w (Single m r) (Bracket m' s) p q u (n, o, h) (n', o', k, e') = cc
only c w (Single m r) (Paired m' x' v' inside' s) p q u (n, o, h) (n', close', b', o', i', l', is', k) = cc
only c w (Stray m r) Ends p q u (n, o, i, h) k = absurd (ends_no_stray c w p n m k.1 o i)
only c w (Stray m r) (Single m' s) p q u (n, o, i, h) (n', o', k) = cc
only c w (Stray m r) (Stray m' s) p q u (n, o, i, h) (n', o', i', k) =
    let there : n ≡ n' = cc in
    let mark : m ≡ m' = cc in
    let same = only c (later w) r s n q u h (subst (λ (x : Place). IsSequence c (later w) x s u) (sym there) k) in
    let front : r ≡ s = same.0 in
    (cc, same.1)
only c w (Stray m r) (Bracket m' s) p q u (n, o, i, h) (n', o', k, e') = cc
only c w (Stray m r) (Paired m' x' v' inside' s) p q u (n, o, i, h) (n', close', b', o', i', l', is', k) = cc
only c w (Bracket m r) Ends p q u (n, o, h, e) k = absurd (ends_no_open c w p n m k.1 o)
only c w (Bracket m r) (Single m' s) p q u (n, o, h, e) (n', o', k) = cc
only c w (Bracket m r) (Stray m' s) p q u (n, o, h, e) (n', o', i', k) = cc
only c w (Bracket m r) (Bracket m' s) p q u (n, o, h, e) (n', o', k, e') =
    let there : n ≡ n' = cc in
    let mark : m ≡ m' = cc in
    let same = only c after_bracket r s n q u h (subst (λ (x : Place). IsSequence c after_bracket x s u) (sym there) k) in
    let front : r ≡ s = same.0 in
    (cc, same.1)
only c w (Bracket m r) (Paired m' x' v' inside' s) p q u (n, o, h, e) (n', close', b', o', i', l', is', k) =
    let there : n ≡ n' = cc in
    let same = only c after_bracket r inside' n q close' h (subst (λ (x : Place). IsSequence c after_bracket x inside' close') (sym there) i') in
    let end_at : q ≡ close' = same.1 in
    cc
only c w (Paired m x v inside r) Ends p q u (n, close, b, o, i, l, is, h) k = absurd (ends_no_open c w p n m k.1 o)
only c w (Paired m x v inside r) (Single m' s) p q u (n, close, b, o, i, l, is, h) (n', o', k) = cc
only c w (Paired m x v inside r) (Stray m' s) p q u (n, close, b, o, i, l, is, h) (n', o', i', k) = cc
only c w (Paired m x v inside r) (Bracket m' s) p q u (n, close, b, o, i, l, is, h) (n', o', k, e') =
    let there : n ≡ n' = cc in
    let same = only c after_bracket inside s n close u i (subst (λ (x : Place). IsSequence c after_bracket x s u) (sym there) k) in
    let end_at : close ≡ u = same.1 in
    cc
only c w (Paired m x v inside r) (Paired m' x' v' inside' s) p q u (n, close, b, o, i, l, is, h) (n', close', b', o', i', l', is', k) =
    let there : n ≡ n' = cc in
    let opening : m ≡ m' = cc in
    let inner = only c after_bracket inside inside' n close close' i (subst (λ (x : Place). IsSequence c after_bracket x inside' close') (sym there) i') in
    let front : inside ≡ inside' = inner.0 in
    let end_at : close ≡ close' = inner.1 in
    let same_after : b ≡ b' = cc in
    let closing : x ≡ x' = cc in
    let known : v ≡ v' = cc in
    let on : past b v ≡ past b' v' = cc in
    let same = only c (after_pair w v) r s (past b v) q u h
    (subst (λ (y : Place). IsSequence c (after_pair w v) y s u) (sym on)
    (subst (λ (y : Verdict). IsSequence c (after_pair w y) (past b' v') s u) (sym known) k)) in
    let rest : r ≡ s = same.0 in
    (cc, same.1)

pub only_marks : (c : Chain) (ms ns : List Mark) → AreMarks c ms → AreMarks c ns → ms ≡ ns
only_marks c ms ns h k =
    h.of_sequence ∙ ap marks (only c outside h.sequence k.sequence first_place h.last k.last h.is_sequence k.is_sequence).0 ∙ sym k.of_sequence
