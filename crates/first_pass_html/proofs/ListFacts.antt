-- Facts on the elements at the start of a list.
use Rattle.std.proofs.Common.{◌≡◌, ℕ, ◌+◌, Bool, true, false, cond, List, [], ◌∷◌, ◌++◌, length, take, drop, refl, ap, ◌∙◌, arith, one-add}
use Rattle.std.specs.List.{prefix_len, list_all}
use Rattle.std.proofs.lemmas.Bool.{and_parts, and_from}
use Rattle.std.proofs.Math.Seq.{take-append_seam, drop-append_seam}

-- elements that all pass a test, followed by further elements
pub prefix_all : (p : ℕ → Bool) (xs ys : List ℕ) → list_all p xs ≡ true → prefix_len p (xs ++ ys) ≡ length xs + prefix_len p ys
prefix_all p [] ys h = omega arith
prefix_all p (x ∷ xs) ys h =
    let both = and_parts (p x) (list_all p xs) h in
    let r = prefix_all p xs ys both.1 in
    rw both.0 (omega arith)

-- the leading elements that pass, without the others
pub prefix_passes : (p : ℕ → Bool) (xs : List ℕ) → list_all p (take (prefix_len p xs) xs) ≡ true
prefix_passes p [] = refl
prefix_passes p (x ∷ xs) =
    (elim (p x) as (λ t. p x ≡ t → list_all p (take (cond t (1 + prefix_len p xs) 0) (x ∷ xs)) ≡ true) [
      | true ↦ λ e. rw one-add (and_from (p x) _ e (prefix_passes p xs))
      | false ↦ λ e. refl
    ]) refl

-- elements that all pass, followed by one that does not or by the end
pub front_size : (p : ℕ → Bool) (bs front rest : List ℕ) → bs ≡ front ++ rest → list_all p front ≡ true → prefix_len p rest ≡ 0 → prefix_len p bs ≡ length front
front_size p bs front rest parts all stops = let more = prefix_all p front rest all in rw parts (omega arith)

-- a list that begins with n given elements
pub front_of : (n : ℕ) (bs xs ys : List ℕ) → bs ≡ xs ++ ys → n ≡ length xs → take n bs ≡ xs
front_of n bs xs ys parts size = ap (λ k. take k bs) size ∙ ap (take (length xs)) parts ∙ take-append_seam xs ys

pub rest_after : (n : ℕ) (bs xs ys : List ℕ) → bs ≡ xs ++ ys → n ≡ length xs → drop n bs ≡ ys
rest_after n bs xs ys parts size = ap (λ k. drop k bs) size ∙ ap (drop (length xs)) parts ∙ drop-append_seam xs ys

-- the first element does not pass
pub prefix_none : (p : ℕ → Bool) (b : ℕ) (bs : List ℕ) → p b ≡ false → prefix_len p (b ∷ bs) ≡ 0
prefix_none p b bs h = rw h
