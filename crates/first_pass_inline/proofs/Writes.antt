-- The marks of a pair, as they are written.
use Rattle.std.proofs.Common.{◌≡◌, ℕ, suc, ◌+◌, ◌<◌, List, [], ◌∷◌, ◌++◌, length, take, drop, set, ap, ◌∙◌, arith, append_assoc}
use Rattle.std.proofs.lemmas.List.{set_split}

pub written : {A : Type 0} (l : List A) (i : ℕ) (a : A) → i < length l → set l i a ≡ take i l ++ a ∷ drop (i + 1) l
written l i a h =
    let next : suc i ≡ i + 1 = omega arith in
    set_split l i a h ∙ ap (λ (n : ℕ). take i l ++ a ∷ drop n l) next

pub write_closed : {A : Type 0} (l : List A) (i : ℕ) (a b : A) → i < length l → set l i a ++ b ∷ [] ≡ take i l ++ a ∷ (drop (i + 1) l ++ b ∷ [])
write_closed l i a b h = rw (written l i a h) (simp append_assoc)
