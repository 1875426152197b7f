-- A walk from any offset past the end makes no calls.
use Rattle.std.proofs.Common.{ℕ, ◌≡◌, ◌⊎◌, subst, ◌≤◌, ◌<◌, Bool, List, ◌∷◌, length, Option, inl, inr, arith, []}
use Rattle.first_pass_walk.proofs.Common.{Marking, Walks, IsNextMarked}
use Rattle.first_pass_walk.specs.declared.walk.LoopInstruction.{LoopInstruction}

next_within : {lut : List Bool} {bytes : List ℕ} {ix j : ℕ} → IsNextMarked lut bytes ix j → (ix ≤ j) × (j < length bytes)
next_within next = (next.from, next.within)

-- two places that are equal or both past the end, as a saturated sum and the true sum are, have the same walks
pub walks_from_sum : {F T : Type 0} (step : F → ℕ → ℕ → LoopInstruction (Option T) → F → Type 0) (marking : Marking) (a b : ℕ) (skips : List ℕ) (f : F)
    (answer : ℕ × Option T) (last : F)
    → (a ≡ b) ⊎ ((length marking.bytes ≤ a) × (length marking.bytes ≤ b)) → Walks step marking skips (a, f) (answer, last)
    → Walks step marking skips (b, f) (answer, last)
walks_from_sum step marking a b skips f answer last (inl same) w = subst (λ (x : ℕ). Walks step marking skips (x, f) (answer, last)) same w
walks_from_sum step marking a b [] f answer last (inr past) w = grind (arith, next_within)
walks_from_sum step marking a b (n ∷ ns) f answer last (inr past) w = grind (arith, next_within)
