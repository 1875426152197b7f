-- The result of reading 16 bytes at once.
use Rattle.std.specs.Prelude.{◌≡◌, ℕ, ◌+◌, ◌<◌, ◌≤◌, ◌==◌, Bool, true, false, List, slice_index, if◌then◌else◌}
use Rattle.std.specs.Int.{w64, trailing_zeros}
use Rattle.first_pass_items.specs.Bytes.{space}

-- the position of the lowest set bit, or n if no bit is set (this project)
abbrev pub first_set : ℕ → ℕ → ℕ
first_set mask n = if mask == 0 then n else trailing_zeros w64 mask

-- The first r of the n bytes from an offset on pass the test. If r is less than n, the next byte fails it (this
-- project).
abbrev pub IsRunIn : (ℕ → Bool) → List ℕ → ℕ → ℕ → ℕ → Type 0
IsRunIn test bytes at n r = (r ≤ n) × ((k : ℕ) → at ≤ k → k < at + r → test (slice_index bytes k) ≡ true) × (r < n → test (slice_index bytes (at + r)) ≡ false)

-- a space (this project)
abbrev pub is_space : ℕ → Bool
is_space b = b == space
