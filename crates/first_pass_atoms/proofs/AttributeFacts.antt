-- The length of all attributes, one attribute at a time.
use Rattle.std.proofs.Common.{◌≡◌, ℕ, zero, suc, ◌+◌, ◌<◌, ◌≤◌, ◌==◌, List, [], ◌∷◌, length, drop, Option, Some, None, refl, sym, ap, ◌∙◌, arith, length-drop}
use Rattle.std.proofs.Common.{if◌then◌else◌}
use Rattle.std.specs.Option.{unwrap_or, option_map}
use Rattle.std.proofs.lemmas.Option.{none-some}
use Rattle.std.proofs.lemmas.Bool.Decides.{nat_tests}
use Rattle.first_pass_lines.proofs.OptionFacts.{some_mapped, some_unless}
use Rattle.first_pass_atoms.specs.TagLengths.{attribute_len, first_attributes_len, attributes_len}

-- an attribute has a blank
after_blanks : (b n : ℕ) (o : Option ℕ) → (if b == 0 then None else option_map (λ k. b + k) o) ≡ Some n → 0 < n
after_blanks b n o h =
    let s = some_unless (b == 0) (option_map (λ k. b + k) o) n h in
    let m = some_mapped (λ k. b + k) o n s.1 in
    grind (arith, nat_tests, s.0, m.2)

not_empty : (bs : List ℕ) (n : ℕ) → attribute_len bs ≡ Some n → 0 < n
unfolding attribute_len
not_empty bs n h = after_blanks _ n _ h

none_of_none : attribute_len [] ≡ None
unfolding attribute_len
none_of_none = refl

abbrev more : (List ℕ → ℕ) → List ℕ → Option ℕ → ℕ
more f bs o = unwrap_or (option_map (λ n. n + f (drop n bs)) o) 0

step : (f g : List ℕ → ℕ) (bs : List ℕ) (o : Option ℕ) → ((n : ℕ) → o ≡ Some n → f (drop n bs) ≡ g (drop n bs)) → more f bs o ≡ more g bs o
step f g bs None h = refl
step f g bs (Some n) h = ap (λ k. n + k) (h n refl)

-- any number of attributes that is large enough gives the same
same : (m k : ℕ) (bs : List ℕ) → length bs ≤ m → length bs ≤ k → first_attributes_len m bs ≡ first_attributes_len k bs
unfolding first_attributes_len
same zero zero bs h l = refl
same zero (suc k) [] h l = rw none_of_none refl
same zero (suc k) (b ∷ bs) h l = absurd (omega arith)
same (suc m) zero [] h l = rw none_of_none refl
same (suc m) zero (b ∷ bs) h l = absurd (omega arith)
same (suc m) (suc k) bs h l =
    step (first_attributes_len m) (first_attributes_len k) bs (attribute_len bs)
    (λ n e. same m k (drop n bs) (omega (arith, not_empty bs n e, length-drop n bs)) (omega (arith, not_empty bs n e, length-drop n bs)))

pub attributes_none : (bs : List ℕ) → attribute_len bs ≡ None → attributes_len bs ≡ 0
unfolding attributes_len first_attributes_len
attributes_none [] h = refl
attributes_none (b ∷ bs) h = rw h refl

pub attributes_more : (bs : List ℕ) (n : ℕ) → attribute_len bs ≡ Some n → attributes_len bs ≡ n + attributes_len (drop n bs)
unfolding attributes_len first_attributes_len
attributes_more [] n h = absurd (none-some n (sym none_of_none ∙ h))
attributes_more (b ∷ bs) n h =
    rw h (ap (λ k. n + k) (same (length bs) (length (drop n (b ∷ bs))) (drop n (b ∷ bs))
    (omega (arith, not_empty (b ∷ bs) n h, length-drop n (b ∷ bs))) (omega arith)))
