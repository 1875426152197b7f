-- From the mask of one load to the bytes that pass a test.
use Rattle.std.proofs.Common.{◌≡◌, ℕ, ◌+◌, ◌-◌, ◌%◌, ◌^◌, ◌<◌, ◌≤◌, Bool, true, false, not, List, ◌∷◌, map, length, get_or, replicate, Fits, w8, refl, sym, []}
use Rattle.std.proofs.Common.{zero, suc, drop, ap, ap₂, ◌∙◌, subst, arith, inl, inr, eq-eqb, ne_eqb}
use Rattle.first_pass_lines.proofs.Common.{prefix_len, prefix_len-le-length, prefix_len_passes, prefix_len_stops, agree_below, agree_below_at, not-true}
use Rattle.first_pass_lines.proofs.Common.{not-false, cases_eq, cond-true, cond-false, length-chunk, get_or-chunk, leading_from_mask_l, trailing_mask_l}
use lib.Lanes.{chunk, zip2, mask_l, top}
use Rattle.first_pass_lines.specs.Lanes.{first_set, IsRunIn}
use Rattle.first_pass_lines.proofs.MaskLemmas.{mask_is}

zip2-map : (h : ℕ → ℕ → ℕ) (f g : ℕ → ℕ) (xs : List ℕ) → zip2 h (map f xs) (map g xs) ≡ map (λ x. h (f x) (g x)) xs
zip2-map h f g [] = refl
zip2-map h f g (x ∷ xs) = ap (λ r. h (f x) (g x) ∷ r) (zip2-map h f g xs)

-- an operation on two vectors that were computed lane by lane from v
pub joined : (h : ℕ → ℕ → ℕ) (f g : ℕ → ℕ) (v : List ℕ) {a b : List ℕ} → a ≡ map f v → b ≡ map g v → zip2 h a b ≡ map (λ x. h (f x) (g x)) v
joined h f g v p q = ap₂ (zip2 h) p q ∙ zip2-map h f g v

pub splat_is : (v : List ℕ) (n y : ℕ) → length v ≡ n → replicate n y ≡ map (λ _. y) v
splat_is [] n y e = ap (λ k. replicate k y) (sym e)
splat_is (x ∷ xs) n y e = ap (λ k. replicate k y) (sym e) ∙ ap (λ r. y ∷ r) (splat_is xs (length xs) y refl)

run_is : (p : ℕ → Bool) (v : List ℕ) (n : ℕ) → length v ≡ n → n ≤ 64 → first_set (mask_l (map p v)) n ≡ prefix_len (λ x. not (p x)) v
run_is p v n long bound = grind (arith, cases_eq, cond-true, leading_from_mask_l, long, cond-false, trailing_mask_l)

module _ (q : ℕ → Bool) (d : List ℕ) (i n r : ℕ) (z : List ℕ) (room : i + n ≤ length d) (bound : n ≤ 64)
    (fits : (k : ℕ) → Fits w8 (get_or d k 0)) (found : r ≡ first_set (mask_l (map (top 7) z) % 2 ^ 64) n)
    (f : ℕ → ℕ) (lanes : z ≡ map f (chunk i n d)) where
  abbrev stops : ℕ → Bool
  stops x = top 7 (f x)

  long : length (chunk i n d) ≡ n
  long = length-chunk i n d room

  counted : r ≡ prefix_len (λ x. not (stops x)) (chunk i n d)
  counted = found ∙ ap (λ m. first_set m n) (mask_is d i n z room bound f lanes) ∙ run_is stops (chunk i n d) n long bound

  continues : (k : ℕ) → i ≤ k → k < i + r → stops (get_or d k 0) ≡ false
  continues k from to =
      let back : i + (k - i) ≡ k = omega arith in
      grind (arith, prefix_len-le-length, get_or-chunk, counted, long, not-true, prefix_len_passes)

  -- `stops` holds of a lane exactly if q fails
  pub run_in : agree_below stops (λ x. not (q x)) 256 ≡ true → IsRunIn q d i n r
  run_in all = (
    omega (arith, counted, long, prefix_len-le-length (λ x. not (stops x)) (chunk i n d)),
    λ k from to. not-false _ (sym (agree_below_at stops (λ x. not (q x)) 256 (get_or d k 0) all (fits k).fits) ∙ continues k from to),
    λ short.
        let at = ap (λ j. get_or (chunk i n d) j 0) (sym counted) ∙ get_or-chunk i n d r 0 short in
        let set = subst (λ x. stops x ≡ true) at (not-false _ (prefix_len_stops (λ x. not (stops x)) (chunk i n d) 0 (omega (arith, counted, long)))) in
        not-true _ (sym (agree_below_at stops (λ x. not (q x)) 256 (get_or d (i + r) 0) all (fits (i + r)).fits) ∙ set),
  )

-- the run of bytes that pass is those before an offset that pass, and the run of those from there on
pub after_passed : (p : ℕ → Bool) (xs : List ℕ) (i : ℕ)
    → i ≤ length xs → ((k : ℕ) → k < i → p (get_or xs k 0) ≡ true) → i + prefix_len p (drop i xs) ≡ prefix_len p xs
after_passed p xs zero h passed = omega arith
after_passed p [] (suc i) h passed = absurd (omega arith)
after_passed p (x ∷ xs) (suc i) h passed =
    rw (passed 0 (omega arith)) (omega (arith, after_passed p xs i (omega arith) (λ k l. passed (suc k) (omega arith))))
