-- Spaces and tabs, each taken with all its columns.
use Rattle.std.specs.Prelude.{ℕ, ◌+◌, ◌==◌, List, [], ◌∷◌, Option, Some, None, if◌then◌else◌}
use Rattle.first_pass_items.specs.Bytes.{tab, space}
use Rattle.first_pass_lines.specs.Rest.{Rest, past_byte}

-- the rest without the columns that a partly taken tab owes (this project)
abbrev pub without_owed : Rest → Rest
without_owed r = record r { owed = 0 }

-- the rest after the space or the tab that these bytes begin with, and after all columns of the tab (CommonMark 2.2)
abbrev pub past_blank_in : Rest → List ℕ → Option Rest
past_blank_in r [] = None
past_blank_in r (b ∷ bs) =
    if b == space
    then Some (past_byte r bs)
    else (if b == tab then Some (record { left = bs; taken = r.taken + 1; owed = 0; column = 0 }) else None)

-- the rest after its first byte, if that is a space or a tab, and after all columns of the tab (CommonMark 2.2)
abbrev pub past_blank : Rest → Option Rest
past_blank r = past_blank_in r r.left
