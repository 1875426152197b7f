-- How much the rest of a text holds, judged by the part that was read (this project).
use Rattle.std.specs.Prelude.{◌+◌, ◌/◌, ◌%◌, ◌==◌, ℕ, if◌then◌else◌}

-- how many parts of a size these bytes fill; the last part may be filled in part (this project)
abbrev pub parts_of : ℕ → ℕ → ℕ
parts_of size bytes = if bytes % size == 0 then bytes / size else bytes / size + 1
