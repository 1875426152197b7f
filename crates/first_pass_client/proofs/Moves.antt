-- What a method says of the text before it holds of the text after it, which is the same.
use Rattle.std.proofs.Common.{◌≡◌, ◌≤◌, ℕ, List, Option, Some, IfSome, IsCharBoundary, sym, ap, subst, arith}
use Rattle.first_pass_client.proofs.Common.{MayAddAt, source_of, source_options, source_text, state_of}
use Rattle.first_pass_open.specs.declared.source.Source.{Source}
use Rattle.first_pass_order.specs.Ordered.{IsReadFrom}
use Rattle.first_pass.specs.declared.state.FirstPass.{FirstPass}
use Rattle.first_pass_client.specs.Places.{MayAdd, MayRead}

-- what holds of a value that is given
pub given : {X : Type 0} → (o : Option X) (x : X) (P : X → Type 0) → o ≡ Some x → IfSome o P → P x
given o x P is h = subst (λ o. IfSome o P) is h

pub same_text : (old new : FirstPass) → source_of new ≡ source_of old → source_text old ≡ source_text new
same_text old new same = sym (ap (λ (s : Source). s.text.now) same)

pub may_add : (old new : FirstPass) (from at : ℕ) → source_of new ≡ source_of old → from ≤ at → MayAddAt (source_text old) (state_of new) from
    → IsCharBoundary (source_text old) at → MayAdd new at
may_add old new from at same low order boundary = record {
  from = from;
  low = low;
  order = subst (λ (t : List ℕ). MayAddAt t (state_of new) from) (same_text old new same) order;
  boundary = subst (λ (t : List ℕ). IsCharBoundary t at) (same_text old new same) boundary;
}

pub may_add_here : (old new : FirstPass) (at : ℕ) → source_of new ≡ source_of old → MayAddAt (source_text old) (state_of new) at
    → IsCharBoundary (source_text old) at → MayAdd new at
may_add_here old new at same order boundary = may_add old new at at same (omega arith) order boundary

pub may_read : (old new : FirstPass) (at : ℕ) → source_of new ≡ source_of old → IsReadFrom (source_options old) (source_text old) (state_of new) at
    → IsCharBoundary (source_text old) at → MayRead new at
may_read old new at same order boundary = record {
  order = subst (λ (s : Source). IsReadFrom s.options s.text.now (state_of new) at) (sym same) order;
  boundary = subst (λ (t : List ℕ). IsCharBoundary t at) (same_text old new same) boundary;
}
