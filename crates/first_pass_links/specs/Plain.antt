-- Bytes without a special meaning in a label, in a destination or in a text.
use Rattle.std.specs.Prelude.{◌≡◌, ◌<◌, ◌≤◌, ℕ, Bool, true, List, drop, slice_index, ◌==◌, ◌&&◌, ◌||◌, not, nat_le}
use Rattle.first_pass_items.specs.Bytes.{backslash, ampersand, right_bracket}
use Rattle.first_pass_lines.specs.Lines.{begins}

-- An ASCII character from `*` to `~`, except square brackets and the backslash. In a label, or in a destination outside
-- `<..>`, it ends, nests and escapes nothing. It is no white space (CommonMark 6.3).
abbrev pub is_ordinary : ℕ → Bool
is_ordinary b = (nat_le 42 b && nat_le b 90) || (nat_le 94 b && nat_le b 126)

-- neither a backslash nor `&`: no escape and no reference begins with such a byte (CommonMark 2.4, 2.5)
abbrev pub is_unmarked : ℕ → Bool
is_unmarked b = not (b == backslash || b == ampersand)

-- the first n bytes, at least one and at most 16, are ordinary, and a `]` follows them (CommonMark 6.3; at most 16:
-- this project)
pub record IsPlainLabel (bytes : List ℕ) (n : ℕ) : Type 0 where
  pub some : 0 < n
  pub few : n ≤ 16
  pub plain : (k : ℕ) → k < n → is_ordinary (slice_index bytes k) ≡ true
  pub closes : begins right_bracket (drop n bytes) ≡ true
