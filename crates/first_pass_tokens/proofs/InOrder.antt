-- Tokens, one after the other.
use Rattle.std.proofs.Common.{ℕ, ◌≤◌, ◌<◌, List, ◌∷◌, IsCharBoundary, []}
use Rattle.first_pass_tokens.proofs.Common.{Item}

-- These items are between two offsets, one after the other, and each begins and ends between two characters (this
-- project).
abbrev pub AreInOrder : List ℕ → ℕ → ℕ → List Item → Type 0
AreInOrder text from to [] = from ≤ to
AreInOrder text from to (x ∷ xs) =
    (from ≤ x.start) × (x.start ≤ x.«end») × IsCharBoundary text x.start × IsCharBoundary text x.«end» × AreInOrder text x.«end» to xs

-- each of these items has at least one byte (this project)
abbrev pub HaveBytes : List Item → Type 0
HaveBytes [] = Unit
HaveBytes (x ∷ xs) = (x.start < x.«end») × HaveBytes xs
