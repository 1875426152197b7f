-- Timed runs of the pass (this project).
use Rattle.std.specs.Prelude.{◌≡◌, ℕ, ◌-◌, ◌<◌, ◌≤◌, max, ◌==◌, ◌||◌, ◌&&◌, nat_le, Bool, true, false, Option, None, Some, List, [], ◌∷◌, length, map, take}
use Rattle.std.specs.Prelude.{All, Contains}
use Rattle.std.specs.List.{flat_map}
use Rattle.std.specs.Io.KnownBytes.{Consumes}

-- the readings of a clock before and after each of successive runs
abbrev pub readings_of : List (ℕ × ℕ) → List ℕ
readings_of runs = flat_map (λ run. run.0 ∷ run.1 ∷ []) runs

-- the time that a run took, or 0 if the clock went back
abbrev pub time_of : ℕ × ℕ → ℕ
time_of run = run.1 - run.0

-- the end of the last run, or another time if there are no runs
unfoldable pub end_of_runs : ℕ → List (ℕ × ℕ) → ℕ
end_of_runs time [] = time
end_of_runs time (run ∷ runs) = end_of_runs run.1 runs

-- the time from the start of the first run to the end of the last
unfoldable pub elapsed : List (ℕ × ℕ) → ℕ
elapsed [] = 0
elapsed (run ∷ runs) = end_of_runs run.1 runs - run.0

-- the least of some numbers
pub record IsLeast (least : ℕ) (numbers : List ℕ) : Type 0 where
  pub among : Contains numbers least
  pub below : All (λ n. least ≤ n) numbers

-- this number of runs in this time is enough: the given number of runs; if none is given, at least five in at least a
-- second, or the greatest number that can be counted
abbrev pub enough : Option ℕ → ℕ → ℕ → Bool
enough (Some asked) runs nanos = nat_le asked runs
enough None runs nanos = (runs == 4_294_967_295) || (nat_le 5 runs && nat_le 1_000_000_000 nanos)

-- the fewest runs that are enough: the given number, but at least one; if none is given, the first that are enough
abbrev pub AreEnough : Option ℕ → List (ℕ × ℕ) → Type 0
AreEnough (Some asked) runs = length runs ≡ max 1 asked
AreEnough None runs = (enough None (length runs) (elapsed runs) ≡ true) × ((k : ℕ) → 0 < k → k < length runs → enough None k (elapsed (take k runs)) ≡ false)

-- runs between two states of a clock, with their number and the least time of one
pub record AreTimed (old new : Option (List ℕ)) (runs : List (ℕ × ℕ)) (count least : ℕ) : Type 0 where
  pub read : Consumes old new (readings_of runs)
  pub counted : count ≡ length runs
  pub shortest : IsLeast least (map time_of runs)

-- the time of the first of some runs, 0 if there is none
abbrev pub first_time : List (ℕ × ℕ) → ℕ
first_time [] = 0
first_time (run ∷ runs) = time_of run

-- the fewest runs that are enough, at least one, between two states of a clock, with their number, the least time of
-- one, and the time of the first
pub record IsTimed (asked : Option ℕ) (old new : Option (List ℕ)) (count least first : ℕ) : Type 0 where
  pub runs : List (ℕ × ℕ)
  pub timed : AreTimed old new runs count least
  pub first_is : first ≡ first_time runs
  pub some : 0 < count
  pub enough : AreEnough asked runs
