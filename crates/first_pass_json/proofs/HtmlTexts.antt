-- A text in an element has no `<`.
use Rattle.std.proofs.Common.{◌≡◌, ◌≢◌, ℕ, List, [], ◌∷◌, ◌⊎◌, inl, inr, arith, sym, subst}
use Rattle.std.proofs.lemmas.Bool.{cases_eq, ne_eqb}
use Rattle.std.proofs.lemmas.List.Elements.{All-append, All-from_recursion, All-nil}
use Rattle.std.specs.List.{All, AllByRecursion}
use Rattle.first_pass_json.specs.Scripts.{html_byte, html_text}

abbrev IsOther : ℕ → Type 0
IsOther byte = byte ≢ 60

one_byte : (byte : ℕ) → (byte ≡ 38) ⊎ (byte ≢ 38) → (byte ≡ 60) ⊎ (byte ≢ 60) → (byte ≡ 62) ⊎ (byte ≢ 62) → AllByRecursion IsOther (html_byte byte)
one_byte byte (inl is) b c =
    subst (λ y. AllByRecursion IsOther (html_byte y)) (sym is)
    ((λ e. omega arith), ((λ e. omega arith), ((λ e. omega arith), ((λ e. omega arith), ((λ e. omega arith), tt)))))
one_byte byte (inr a) (inl is) c =
    subst (λ y. AllByRecursion IsOther (html_byte y)) (sym is) ((λ e. omega arith), ((λ e. omega arith), ((λ e. omega arith), ((λ e. omega arith), tt))))
one_byte byte (inr a) (inr b) (inl is) =
    subst (λ y. AllByRecursion IsOther (html_byte y)) (sym is) ((λ e. omega arith), ((λ e. omega arith), ((λ e. omega arith), ((λ e. omega arith), tt))))
one_byte byte (inr a) (inr b) (inr c) = rw (ne_eqb byte 38 a, ne_eqb byte 60 b, ne_eqb byte 62 c) (b, tt)

pub no_tag : (text : List ℕ) → All (λ byte. byte ≢ 60) (html_text text)
unfolding html_text
no_tag [] = All-nil IsOther
no_tag (x ∷ xs) =
    All-append IsOther (html_byte x) (html_text xs) (All-from_recursion IsOther (html_byte x) (one_byte x (cases_eq x 38) (cases_eq x 60) (cases_eq x 62)))
    (no_tag xs)
