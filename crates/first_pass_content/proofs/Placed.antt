-- Bytes that stand in the text one after the other, and parts of lists.
use Rattle.std.proofs.Common.{◌≡◌, ℕ, ◌+◌, ◌-◌, ◌≤◌, List, [], ◌∷◌, ◌++◌, length, take, drop, sym, ap, ◌∙◌, arith}
use Rattle.std.proofs.lemmas.List.{take-append-drop, take-take, drop-take, drop-drop, drop-append-le, take-append-le, drop_at, take_all, length-drop}
use Rattle.std.specs.List.{slice_range}
use Rattle.first_pass_content.specs.Content.{byte_in, placed}

pub placed_both : (at next : ℕ) (xs ys : List ℕ) → next ≡ at + length xs → placed at (xs ++ ys) ≡ placed at xs ++ placed next ys
placed_both at next [] ys is = let e : at ≡ next = omega (arith, is) in ap (λ n. placed n ys) e
placed_both at next (x ∷ xs) ys is = ap (λ l. byte_in x at (at + 1) ∷ l) (placed_both (at + 1) next xs ys (omega (arith, is)))

take_both : (m n : ℕ) (l : List ℕ) → take (m + n) l ≡ take m l ++ take n (drop m l)
take_both m n l =
    sym (take-append-drop m (take (m + n) l)) ∙ ap (λ z. z ++ drop m (take (m + n) l)) (take-take m (m + n) l (omega arith))
    ∙ ap (λ z. take m l ++ z) (drop-take m n l)

-- a part of a list up to a place in it, and the part from there on
pub slice_both : (xs : List ℕ) (a b c : ℕ) → a ≤ b → b ≤ c → slice_range xs a c ≡ slice_range xs a b ++ slice_range xs b c
slice_both xs a b c ab bc =
    let sum : c - a ≡ (b - a) + (c - b) = omega arith in
    let at : a + (b - a) ≡ b = omega arith in
    ap (λ n. take n (drop a xs)) sum ∙ take_both (b - a) (c - b) (drop a xs)
    ∙ ap (λ z. take (b - a) (drop a xs) ++ take (c - b) z) (drop-drop (b - a) a xs ∙ ap (λ n. drop n xs) at)

-- a part of a list is that of a longer one
pub slice_front : (xs ys : List ℕ) (a b : ℕ) → a ≤ b → b ≤ length xs → slice_range (xs ++ ys) a b ≡ slice_range xs a b
slice_front xs ys a b ab within =
    ap (λ z. take (b - a) z) (drop-append-le a xs ys (omega arith))
    ∙ take-append-le (b - a) (drop a xs) ys (omega (arith, length-drop a xs))

-- the last part of a list
pub slice_back : (xs ys : List ℕ) (a b : ℕ) → a ≡ length xs → b ≡ a + length ys → slice_range (xs ++ ys) a b ≡ ys
slice_back xs ys a b at to = ap (λ z. take (b - a) z) (drop_at xs ys a (sym at)) ∙ take_all (b - a) ys (omega (arith, to))
