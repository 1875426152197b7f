-- The parts of a page, one after the other.
use Rattle.std.proofs.Common.{◌≡◌, ℕ, ◌+◌, ◌<◌, List, [], ◌∷◌, ◌++◌, length, get_or, take, drop, ap, ◌∙◌, sym, append-nil, take-append-drop, flat_map}
use Rattle.std.proofs.lemmas.List.{take_more, drop_more}
use Rattle.std.proofs.lemmas.List.Concat.{flat_map-append}

-- the parts up to one, and that one
pub parts_more : {A B : Type 0} (part : A → List B) (xs : List A) (i : ℕ) (d : A) → i < length xs
    → flat_map part (take i xs) ++ part (get_or xs i d) ≡ flat_map part (take (i + 1) xs)
parts_more part xs i d within =
    ap (λ l. flat_map part (take i xs) ++ l) (sym (append-nil (part (get_or xs i d)))) ∙ sym (flat_map-append part (take i xs) (get_or xs i d ∷ []))
    ∙ ap (flat_map part) (sym (take_more xs i d within))

-- the parts before one, that one, and the parts after it
pub parts_around : {A B : Type 0} (part : A → List B) (xs : List A) (i : ℕ) (d : A) → i < length xs
    → flat_map part (take i xs) ++ (part (get_or xs i d) ++ flat_map part (drop (i + 1) xs)) ≡ flat_map part xs
parts_around part xs i d within =
    ap (λ l. flat_map part (take i xs) ++ flat_map part l) (sym (drop_more xs i d within)) ∙ sym (flat_map-append part (take i xs) (drop i xs))
    ∙ ap (flat_map part) (take-append-drop i xs)
