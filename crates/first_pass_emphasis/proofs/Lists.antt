-- Lists.
use Rattle.std.proofs.Common.{◌≡◌, ◌⊎◌, inl, inr, ℕ, zero, suc, ◌+◌, ◌-◌, ◌≤◌, List, [], ◌∷◌, ◌++◌, length, take, drop, replicate, slice_get, Some, refl}
use Rattle.std.proofs.Common.{sym, ap, ◌∙◌, arith, append_assoc, length-append}
use Rattle.std.proofs.lemmas.List.{replicate-append-replicate, length-replicate, length-take-le, length-drop, take_at, drop_at}

pub get_front : {X : Type 0} (xs ys : List X) (k : ℕ) (x : X) → slice_get xs k ≡ Some x → slice_get (xs ++ ys) k ≡ Some x
get_front [] ys k x h = absurd (cc)
get_front (y ∷ xs) ys zero x h = h
get_front (y ∷ xs) ys (suc k) x h = get_front xs ys k x h

pub get_seam : {X : Type 0} (xs : List X) (y : X) → slice_get (xs ++ y ∷ []) (length xs) ≡ Some y
get_seam [] y = refl
get_seam (x ∷ xs) y = get_seam xs y

pub get_snoc : {X : Type 0} (xs : List X) (y : X) (k : ℕ) (x : X) → slice_get (xs ++ y ∷ []) k ≡ Some x
    → (slice_get xs k ≡ Some x) ⊎ ((k ≡ length xs) × (y ≡ x))
get_snoc [] y zero x h = inr (refl, cc)
get_snoc [] y (suc k) x h = absurd (cc)
get_snoc (z ∷ xs) y zero x h = inl h
get_snoc (z ∷ xs) y (suc k) x h = elim (get_snoc xs y k x h) [ inl e ↦ inl e | inr e ↦ inr (ap suc e.0, e.1) ]

-- one part of a list is overwritten by another of the same length
overwritten : {X : Type 0} (a b c ys m : List X) (at n : ℕ) → m ≡ a ++ (b ++ c) → length a ≡ at → length b ≡ n
    → take at m ++ (ys ++ drop (at + n) m) ≡ a ++ (ys ++ c)
overwritten a b c ys m at n e la lb =
    let front : take at (a ++ (b ++ c)) ≡ a = take_at a (b ++ c) at la in
    let back : drop (at + n) ((a ++ b) ++ c) ≡ c = drop_at (a ++ b) c (at + n) (simp length-append (omega arith)) in
    let back' : drop (at + n) (a ++ (b ++ c)) ≡ c = ap (drop (at + n)) (sym (append_assoc a b c)) ∙ back in
    rw (e, front, back') refl

split_left : {X : Type 0} (n w : ℕ) (t : X) → w ≤ n → replicate n t ≡ replicate (n - w) t ++ replicate w t
split_left n w t l = let e : n ≡ (n - w) + w = omega arith in ap (λ (m : ℕ). replicate m t) e ∙ sym (replicate-append-replicate (n - w) w t)

split_right : {X : Type 0} (n w : ℕ) (t : X) → w ≤ n → replicate n t ≡ replicate w t ++ replicate (n - w) t
split_right n w t l = let e : n ≡ w + (n - w) = omega arith in ap (λ (m : ℕ). replicate m t) e ∙ sym (replicate-append-replicate w (n - w) t)

-- delimiters are written as those of emphasis at the end of what is left of the opener, and at the begin of the closer
module _ {X : Type 0} (a b r : List X) (left more w e at : ℕ) (t x y : X) (m m1 m2 : List X) where
  pub written : m ≡ ((a ++ replicate left t) ++ b) ++ (replicate more t ++ r) → e + w ≡ length a + left → w ≤ left → w ≤ more
      → at ≡ (length a + left) + length b → m1 ≡ take e m ++ (replicate w x ++ drop (e + w) m) → m2 ≡ take at m1 ++ (replicate w y ++ drop (at + w) m1)
      → m2 ≡ ((a ++ replicate (left - w) t) ++ (replicate w x ++ (b ++ replicate w y))) ++ (replicate (more - w) t ++ r)
  written is place l k there one two =
      let whole : m ≡ (a ++ replicate (left - w) t) ++ (replicate w t ++ (b ++ (replicate w t ++ (replicate (more - w) t ++ r)))) =
      is ∙ rw (split_left left w t l, split_right more w t k) (simp append_assoc) in
      let first : m1 ≡ (a ++ replicate (left - w) t) ++ (replicate w x ++ (b ++ (replicate w t ++ (replicate (more - w) t ++ r)))) =
      one ∙ overwritten (a ++ replicate (left - w) t) (replicate w t) (b ++ (replicate w t ++ (replicate (more - w) t ++ r))) (replicate w x) m e w whole
      (simp (length-append, length-replicate) (omega arith)) (length-replicate w t) in
      let first' : m1 ≡ ((a ++ replicate (left - w) t) ++ (replicate w x ++ b)) ++ (replicate w t ++ (replicate (more - w) t ++ r)) =
      first ∙ simp append_assoc in
      let second : m2 ≡ ((a ++ replicate (left - w) t) ++ (replicate w x ++ b)) ++ (replicate w y ++ (replicate (more - w) t ++ r)) =
      two ∙ overwritten ((a ++ replicate (left - w) t) ++ (replicate w x ++ b)) (replicate w t) (replicate (more - w) t ++ r) (replicate w y) m1 at w first'
      (simp (length-append, length-replicate) (omega arith)) (length-replicate w t) in
      second ∙ simp append_assoc

pub length_over : {X : Type 0} (m : List X) (at n : ℕ) (y : X) → at + n ≤ length m → length (take at m ++ (replicate n y ++ drop (at + n) m)) ≡ length m
length_over m at n y l = simp (length-append, length-replicate, length-drop) (omega (arith, length-take-le at m (omega arith)))
