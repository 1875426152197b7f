-- An array of values is the array of what contracts see of them.
use Rattle.std.proofs.Common.{◌≡◌, ℕ, List, [], ◌∷◌, ◌++◌, map, codes, refl, ap}
use Rattle.first_pass_json.specs.JsonValues.{after_commas, array}

after_commas_seen : {A B : Type 0} (value : B → List ℕ) (view : A → B) (xs : List A)
    → after_commas (λ x. value (view x)) xs ≡ after_commas value (map view xs)
unfolding after_commas
after_commas_seen value view [] = refl
after_commas_seen value view (x ∷ xs) = ap (λ l. (codes "," ++ value (view x)) ++ l) (after_commas_seen value view xs)

pub array_seen : {A B : Type 0} (value : B → List ℕ) (view : A → B) (xs : List A)
    → array (λ x. value (view x)) xs ≡ array value (map view xs)
array_seen value view [] = refl
array_seen value view (x ∷ xs) = ap (λ l. codes "[" ++ (value (view x) ++ l) ++ codes "]") (after_commas_seen value view xs)
