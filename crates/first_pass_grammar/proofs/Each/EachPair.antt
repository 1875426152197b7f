-- A relation between the elements of two lists holds of their first elements, of copies, and of one list after another.
use Rattle.std.proofs.Common.{ℕ, zero, suc, List, ◌∷◌, ◌++◌, take, replicate, []}
use Rattle.first_pass_grammar.proofs.Common.{AllZip}

module _ {A B : Type 0} (Related : A → B → Type 0) where
  pub first_pairs : (n : ℕ) (xs : List A) (ys : List B) → AllZip Related xs ys → AllZip Related (take n xs) (take n ys)
  first_pairs zero xs ys h = tt
  first_pairs (suc n) [] [] h = tt
  first_pairs (suc n) (x ∷ xs) (y ∷ ys) h = (h.0, first_pairs n xs ys h.1)
  first_pairs (suc n) xs ys h = absurd h

  pub pair_copies : (n : ℕ) (x : A) (y : B) → Related x y → AllZip Related (replicate n x) (replicate n y)
  pair_copies zero x y h = tt
  pair_copies (suc n) x y h = (h, pair_copies n x y h)

  pub both_pairs : (xs us : List A) (ys vs : List B) → AllZip Related xs ys → AllZip Related us vs → AllZip Related (xs ++ us) (ys ++ vs)
  both_pairs [] us [] vs h k = k
  both_pairs (x ∷ xs) us (y ∷ ys) vs h k = (h.0, both_pairs xs us ys vs h.1 k)
  both_pairs xs us ys vs h k = absurd h
