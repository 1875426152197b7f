-- What an option is made of, if it has a value.
use Rattle.std.proofs.Common.{◌≡◌, ◌⊎◌, inl, inr, Bool, true, false, Option, Some, None, MatchOption, refl, sym, if◌then◌else◌, option_and_then}
use Rattle.first_pass_grammar.proofs.Common.{none-some}

pub and_some : {A B : Type 0} (k : A → Option B) (o : Option A) (r : B) → option_and_then k o ≡ Some r → (a : A) × (o ≡ Some a) × (k a ≡ Some r)
and_some k None r h = absurd (none-some r h)
and_some k (Some a) r h = (a, refl, h)

pub either_some : {A : Type 0} (t : Bool) (o p : Option A) (r : A) → (if t then o else p) ≡ Some r → (o ≡ Some r) ⊎ (p ≡ Some r)
either_some true o p r h = inl h
either_some false o p r h = inr h

-- the value that a result is for, and what the result says of it
pub record Matched (A : Type 0) (o : Option A) (Q : A → Type 0) : Type 0 where
  pub value : A
  pub is : o ≡ Some value
  pub says : Q value

pub matched : {A B : Type 0} {Q : A → Type 0} (b : B) (o : Option A) → MatchOption o (Some b ≡ None) Q → Matched A o Q
matched b None h = absurd (none-some b (sym h))
matched b (Some a) h = record { value = a; is = refl; says = h }

-- no result, for no value
pub unmatched : {A : Type 0} (P : Type 0) (o : Option A) → MatchOption o P (λ a. ⊥) → o ≡ None
unmatched P None h = refl
unmatched P (Some a) h = absurd h
