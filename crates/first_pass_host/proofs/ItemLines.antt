-- Items that are read as lines: the elements of a slice, and the entries of a map.
use Rattle.std.proofs.Common.{◌≡◌, ℕ, List, [], ◌∷◌, length, map, refl, ap, arith, Bor, flat_map}
use Rattle.std.specs.Map.Iter.{TakesFirst, deref_pair}
use Rattle.std.specs.Slice.Iter.{iter_rest, iter_steps}
use Rattle.first_pass_host.specs.Held.{Calls, CallsAppendLine, AreItemLines}

no_line : {A : Type 0} (line : A → List ℕ) (xs : List A) → length xs ≡ 0 → flat_map line xs ≡ []
no_line line [] none = refl
no_line line (x ∷ xs) none = absurd (omega arith)

-- the lines of the elements of a slice
pub element_lines : {A : Type 0} (calls : Calls (Bor A)) (line : A → List ℕ) → CallsAppendLine calls (λ x. line x.now)
    → AreItemLines iter_steps calls (λ x. line x.now) (λ s. flat_map line (iter_rest s))
element_lines calls line appends = record {
  appended = appends;
  next = λ s t x step. ap (flat_map line) step;
  none = λ s t step. no_line line (iter_rest s) step.0;
}

-- the lines of the entries of a map, each seen as something else
pub entry_lines : {K V B : Type 0} (calls : Calls (Bor K × Bor V)) (line : B → List ℕ) (view : K × V → B)
    → CallsAppendLine calls (λ x. line (view (deref_pair x)))
    → AreItemLines (TakesFirst deref_pair) calls (λ x. line (view (deref_pair x))) (λ s. flat_map line (map view s))
entry_lines calls line view appends = record {
  appended = appends;
  next = λ s t x step. ap (λ l. flat_map line (map view l)) step;
  none = λ s t step. ap (λ l. flat_map line (map view l)) step.0;
}
