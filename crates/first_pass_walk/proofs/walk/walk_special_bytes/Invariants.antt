use Rattle.std.proofs.Common.{ℕ, List, length, ◌-◌}
use Rattle.first_pass_walk.proofs.Common.{Walks}
use Rattle.first_pass_walk.proofs.walk.walk_special_bytes.Given as goal

-- a walk that continues from here is a walk from the start
abbrev pub invariant-loop-at : goal.invariant-loop-at
invariant-loop-at g l =
    goal.F-IsAlwaysCallable g l.callback
    × ((skips : List ℕ) (answer : _) (last : _)
    → Walks (λ f k b i h. goal.F-step g f k b i h) (record { lut = l.lut; bytes = l.bytes }) skips (l.from, l.callback) (answer, last)
    → (all : List ℕ) × Walks (λ f k b i h. goal.F-step g f k b i h) (record { lut = l.lut; bytes = l.bytes }) all (l.fn.ix, l.fn.callback) (answer, last))

abbrev pub decreases-loop-at : goal.decreases-loop-at
decreases-loop-at g l = length l.bytes - l.from
