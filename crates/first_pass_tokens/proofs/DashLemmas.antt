-- Dashes: a text repeated n times, and the offsets at which it may be cut.
use Rattle.std.proofs.Common.{◌≡◌, ℕ, zero, suc, ◌+◌, ◌-◌, ◌*◌, ◌≤◌, List, ◌∷◌, ◌++◌, length, take, drop, encode_utf8, IsUtf8, IsCharBoundary, refl, sym, ap}
use Rattle.std.proofs.Common.{subst, ◌∙◌, arith, length-append, append_assoc, slice_range, append-nil, []}
use Rattle.first_pass_tokens.proofs.Common.{times, IsCharBoundary-at_seam, IsUtf8-append, IsUtf8-nil, IsUtf8-encode, take-append_seam, drop-append_seam}
use Rattle.std.proofs.Math.Utf8.{encode}

-- the bytes of an em dash and of an en dash
abbrev pub em_dash : List ℕ
em_dash = 226 ∷ 128 ∷ 148 ∷ []

abbrev pub en_dash : List ℕ
en_dash = 226 ∷ 128 ∷ 147 ∷ []

pub em_bytes : encode_utf8 0x2014 ≡ em_dash
unfolding encode
em_bytes = refl

pub en_bytes : encode_utf8 0x2013 ≡ en_dash
unfolding encode
en_bytes = refl

pub en_utf8 : IsUtf8 en_dash
en_utf8 = subst IsUtf8 en_bytes (IsUtf8-encode 0x2013 refl)

pub times_add : (k m : ℕ) (t : List ℕ) → times (k + m) t ≡ times k t ++ times m t
times_add zero m t = (let none : 0 + m ≡ m = omega arith in ap (λ (n : ℕ). times n t) none)
times_add (suc k) m t =
    let next : suc k + m ≡ suc (k + m) = omega arith in
    ap (λ (n : ℕ). times n t) next ∙ ap (λ (xs : List ℕ). t ++ xs) (times_add k m t) ∙ sym (append_assoc t (times k t) (times m t))

times_parts : (n k m : ℕ) (t : List ℕ) → n ≡ k + m → times n t ≡ times k t ++ times m t
times_parts n k m t is = ap (λ (j : ℕ). times j t) is ∙ times_add k m t

-- one more repetition at the end
pub times_more : (k : ℕ) (t : List ℕ) → times k t ++ t ≡ times (suc k) t
times_more k t =
    let one : times 1 t ≡ t = append-nil t in
    ap (λ (xs : List ℕ). times k t ++ xs) (sym one) ∙ sym (times_parts (suc k) k 1 t (omega arith))

times_length : (k : ℕ) (t : List ℕ) → length t ≡ 3 → length (times k t) ≡ 3 * k
times_length zero t three = refl
times_length (suc k) t three = (let rest = times_length k t three in let both = length-append t (times k t) in omega arith)

times_utf8 : (k : ℕ) (t : List ℕ) → IsUtf8 t → IsUtf8 (times k t)
times_utf8 zero t h = IsUtf8-nil
times_utf8 (suc k) t h = IsUtf8-append t (times k t) h (times_utf8 k t h)

-- parts of seven repetitions of one text and seven of another
module _ (t u : List ℕ) (first : length t ≡ 3) (second : length u ≡ 3) (utf8 : IsUtf8 u) (k m : ℕ) (bound : k ≤ 7) (some : m ≤ 7) where
  abbrev both : List ℕ
  both = times 7 t ++ times 7 u

  halves : both ≡ times (7 - k) t ++ (times k t ++ (times m u ++ times (7 - m) u))
  halves =
      ap (λ (xs : List ℕ). xs ++ times 7 u) (times_parts 7 (7 - k) k t (omega arith))
      ∙ ap (λ (xs : List ℕ). (times (7 - k) t ++ times k t) ++ xs) (times_parts 7 m (7 - m) u (omega arith))
      ∙ append_assoc (times (7 - k) t) (times k t) (times m u ++ times (7 - m) u)

  -- the second half may be cut
  pub half_boundary : IsCharBoundary both (3 * (7 + m))
  half_boundary =
      let parts : both ≡ (times 7 t ++ times m u) ++ times (7 - m) u =
      ap (λ (xs : List ℕ). times 7 t ++ xs) (times_parts 7 m (7 - m) u (omega arith)) ∙ sym (append_assoc (times 7 t) (times m u) (times (7 - m) u)) in
      let size : length (times 7 t ++ times m u) ≡ 3 * (7 + m) =
      (let a = length-append (times 7 t) (times m u) in let b = times_length 7 t first in let c = times_length m u second in omega arith) in
      subst (IsCharBoundary both) size (IsCharBoundary-at_seam both (times 7 t ++ times m u) (times (7 - m) u) parts (times_utf8 (7 - m) u utf8))

  pub middle : slice_range both (3 * (7 - k)) (3 * (7 + m)) ≡ times k t ++ times m u
  middle =
      let a = times_length (7 - k) t first in
      let b = times_length k t first in
      let c = times_length m u second in
      let d = length-append (times k t) (times m u) in
      let size : 3 * (7 + m) - 3 * (7 - k) ≡ length (times k t ++ times m u) = omega arith in
      let dropped : drop (3 * (7 - k)) both ≡ times k t ++ (times m u ++ times (7 - m) u) =
      ap (drop (3 * (7 - k))) halves ∙ ap (λ (n : ℕ). drop n (times (7 - k) t ++ (times k t ++ (times m u ++ times (7 - m) u)))) (sym a)
      ∙ drop-append_seam (times (7 - k) t) (times k t ++ (times m u ++ times (7 - m) u)) in
      ap (λ (xs : List ℕ). take (3 * (7 + m) - 3 * (7 - k)) xs) (dropped ∙ sym (append_assoc (times k t) (times m u) (times (7 - m) u)))
      ∙ ap (λ (n : ℕ). take n ((times k t ++ times m u) ++ times (7 - m) u)) size
      ∙ take-append_seam (times k t ++ times m u) (times (7 - m) u)
