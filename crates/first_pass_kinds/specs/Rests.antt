-- The rest of a text from a place on.
use Rattle.std.specs.Prelude.{◌≡◌, ◌≤◌, ◌-◌, ℕ, List, length, drop, IsCharBoundary}

-- These bytes are the text from a character boundary on (this project).
pub record IsRestOf (text bytes : List ℕ) : Type 0 where
  pub within : length bytes ≤ length text
  pub are : bytes ≡ drop (length text - length bytes) text
  pub boundary : IsCharBoundary text (length text - length bytes)
