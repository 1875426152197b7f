-- The names in a list of files (this project).
use Rattle.std.specs.Prelude.{◌==◌, ℕ, not, if◌then◌else◌, List, filter, length}
use Rattle.std.specs.List.{list_any, slice_split}

-- the byte that ends each name of a list: NUL if the list holds one, otherwise a newline
abbrev pub separator : List ℕ → ℕ
separator list = if list_any (λ b. b == 0) list then 0 else 10

-- the names in a list, without empty ones
abbrev pub names_in : List ℕ → List (List ℕ)
names_in list = filter (λ name. not (length name == 0)) (slice_split (λ b. b == separator list) list)
