-- The places at which unescaping changes a text. Only contracts of private functions cite this.
use Rattle.std.specs.Prelude.{◌≡◌, ℕ, ◌+◌, ◌-◌, ◌<◌, ◌≤◌, ◌&&◌, Bool, List, ◌++◌, length, take, drop, slice_index, encode_utf8, Option, Some, if◌then◌else◌}
use Rattle.first_pass_items.specs.Bytes.{backslash, pipe, ascii_end}
use Rattle.first_pass_lines.specs.Lines.{begins}
use Rattle.first_pass_links.specs.Escapes.{replaced_at, unescaped}

-- The bytes begin with two backslashes and a pipe. In a table, the second backslash is dropped, and the first then
-- escapes the pipe (CommonMark 2.4, GFM 4.10).
abbrev pub begins_pipe_escape : List ℕ → Bool
begins_pipe_escape bs = begins backslash bs && begins backslash (drop 1 bs) && begins pipe (drop 2 bs)

-- the bytes at the start that unescaping replaces by one character: their number, and that character (CommonMark 2.4,
-- 2.5, GFM 4.10)
unfoldable pub change_at : Bool → List ℕ → Option (ℕ × ℕ)
change_at in_table bs = if in_table && begins_pipe_escape bs then Some (3, pipe) else replaced_at bs

-- the next change from an offset on: the offset up to which bytes are kept, the number of bytes replaced there, and
-- their character (this project)
pub record IsChange (in_table : Bool) (text : List ℕ) (from : ℕ) (change : ℕ × ℕ × ℕ) : Type 0 where
  pub order : from ≤ change.0
  pub within : change.0 + change.1 ≤ length text
  pub shorter : length (encode_utf8 change.2) < change.1
  pub first : slice_index text change.0 < ascii_end
  pub last : slice_index text (change.0 + change.1 - 1) < ascii_end
  pub replaced : unescaped in_table (drop from text)
      ≡ take (change.0 - from) (drop from text) ++ (encode_utf8 change.2 ++ unescaped in_table (drop (change.0 + change.1) text))
