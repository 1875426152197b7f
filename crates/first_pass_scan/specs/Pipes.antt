-- The bytes of a line before its first pipe (GFM 4.10).
use Rattle.std.specs.Prelude.{ℕ, ◌||◌, not, Bool}
use Rattle.first_pass_lines.specs.Lines.{is_line_end}
use Rattle.first_pass_scan.specs.TableHead.{is_pipe}

-- a byte that is neither a pipe nor part of a line ending (GFM 4.10)
abbrev pub is_unpiped : ℕ → Bool
is_unpiped b = not (is_line_end b || is_pipe b)
