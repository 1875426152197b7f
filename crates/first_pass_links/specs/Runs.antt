-- Destinations outside `<..>` as runs (CommonMark 6.3).
use Rattle.std.specs.Prelude.{◌≡◌, ℕ, suc, ◌==◌, ◌≤◌, ◌||◌, not, Bool, true, false, List, [], ◌∷◌, ◌++◌, length, take, drop}
use Rattle.std.specs.Char.{is_ascii_punctuation}
use Rattle.first_pass_items.specs.Bytes.{left_parenthesis, right_parenthesis, backslash}
use Rattle.first_pass_links.specs.Escapes.{begins_escape}
use Rattle.first_pass_links.specs.Destinations.{ends_run}

-- a byte that a run may have by itself: no ASCII control character, no space and no parenthesis (CommonMark 6.3)
abbrev pub is_run_byte : ℕ → Bool
is_run_byte b = not (ends_run b || b == left_parenthesis || b == right_parenthesis)

-- A run, given the bytes that follow it. It has no ASCII control character and no space. Its parentheses are escaped,
-- or balanced and nested at most `deepest` deep (CommonMark 6.3).
pub data IsBare : ℕ → List ℕ → List ℕ → Type 0 where
  -- the empty run
  nothing : (deepest : ℕ) (following : List ℕ) → IsBare deepest [] following
  -- a backslash with the ASCII punctuation that it escapes, then a run
  escape : (deepest b : ℕ) (more following : List ℕ) → is_ascii_punctuation b ≡ true → IsBare deepest more following
      → IsBare deepest (backslash ∷ b ∷ more) following
  -- a byte by itself (also a backslash that escapes nothing), then a run
  plain : (deepest b : ℕ) (more following : List ℕ)
      → is_run_byte b ≡ true → begins_escape (b ∷ (more ++ following)) ≡ false → IsBare deepest more following → IsBare deepest (b ∷ more) following
  -- a run in parentheses, nested one less deep, then a run
  nested : (deepest : ℕ) (inside more following : List ℕ)
      → IsBare deepest inside (right_parenthesis ∷ (more ++ following)) → IsBare (suc deepest) more following
      → IsBare (suc deepest) (left_parenthesis ∷ (inside ++ right_parenthesis ∷ more)) following

-- A run ends before these bytes: there are none, or the first is an ASCII control character, a space, or a `)`. Since
-- the run is balanced, that `)` closes none of its parentheses (CommonMark 6.3).
abbrev pub ends_before : List ℕ → Bool
ends_before [] = true
ends_before (b ∷ bs) = ends_run b || b == right_parenthesis

-- the first n bytes are a run, which ends there (CommonMark 6.3)
pub record BeginsRun (deepest : ℕ) (bs : List ℕ) (n : ℕ) : Type 0 where
  pub within : n ≤ length bs
  pub run : IsBare deepest (take n bs) (drop n bs)
  pub ends : ends_before (drop n bs) ≡ true
