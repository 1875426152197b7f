-- JSON in a script element, byte by byte.
use Rattle.std.proofs.Common.{◌≡◌, ◌≢◌, ℕ, List, [], ◌∷◌, ◌++◌, ◌⊎◌, inl, inr, refl, ap, ◌∙◌, arith, sym, subst, flat_map}
use Rattle.std.proofs.lemmas.Bool.{cases_eq, ne_eqb}
use Rattle.std.proofs.lemmas.List.Concat.{flat_map-append}
use Rattle.std.proofs.lemmas.List.Elements.{All-from_recursion}
use Rattle.std.specs.List.{All, AllByRecursion}
use Rattle.first_pass_json.specs.Scripts.{script_byte, in_script}

other_byte : (byte : ℕ) → byte ≢ 60 → script_byte byte ≡ byte ∷ []
other_byte byte other = rw (ne_eqb byte 60 other)

-- a byte other than `<` stays
pub in_script-other : (byte : ℕ) (json : List ℕ) → byte ≢ 60 → in_script (byte ∷ json) ≡ byte ∷ in_script json
unfolding in_script
in_script-other byte json other = ap (λ l. l ++ in_script json) (other_byte byte other)

pub in_script-append : (json more : List ℕ) → in_script (json ++ more) ≡ in_script json ++ in_script more
unfolding in_script
in_script-append json more = flat_map-append script_byte json more

-- joined texts stand there one after the other
pub in_script-joined : {A : Type 0} (text : A → List ℕ) (xs : List A) → in_script (flat_map text xs) ≡ flat_map (λ x. in_script (text x)) xs
unfolding in_script
in_script-joined text [] = refl
in_script-joined text (x ∷ xs) = in_script-append (text x) (flat_map text xs) ∙ ap (λ l. in_script (text x) ++ l) (in_script-joined text xs)

-- lines, and a text after them
pub in_script-lines : {A : Type 0} (line : A → List ℕ) (xs : List A) (rest : List ℕ)
    → flat_map (λ x. in_script (line x)) xs ++ in_script rest ≡ in_script (flat_map line xs ++ rest)
in_script-lines line xs rest = ap (λ l. l ++ in_script rest) (sym (in_script-joined line xs)) ∙ sym (in_script-append (flat_map line xs) rest)

abbrev IsOther : ℕ → Type 0
IsOther byte = byte ≢ 60

one_more : (x : ℕ) (xs : List ℕ) → (x ≡ 60) ⊎ (x ≢ 60) → AllByRecursion IsOther (in_script xs) → AllByRecursion IsOther (in_script (x ∷ xs))
unfolding in_script
one_more x xs (inl is) more =
    subst (λ y. AllByRecursion IsOther (in_script (y ∷ xs))) (sym is)
    ((λ e. omega arith), ((λ e. omega arith), ((λ e. omega arith), ((λ e. omega arith), ((λ e. omega arith), ((λ e. omega arith), more))))))
one_more x xs (inr other) more = subst (AllByRecursion IsOther) (sym (in_script-other x xs other)) (other, more)

others : (json : List ℕ) → AllByRecursion IsOther (in_script json)
unfolding in_script
others [] = tt
others (x ∷ xs) = one_more x xs (cases_eq x 60) (others xs)

-- nothing there is `<`
pub all_others : (json : List ℕ) → All (λ byte. byte ≢ 60) (in_script json)
all_others json = All-from_recursion IsOther (in_script json) (others json)
