-- The printed form of a text on one line, and in parentheses (this project).
use Rattle.std.specs.Prelude.{ℕ, ◌==◌, List, [], ◌∷◌, ◌++◌, codes, if◌then◌else◌}
use Rattle.std.specs.List.{flat_map}
use Rattle.first_pass_items.specs.Bytes.{line_feed, carriage_return, backslash, small_n, small_r}

-- a text in parentheses
abbrev pub in_parentheses : List ℕ → List ℕ
in_parentheses text = codes "(" ++ text ++ codes ")"

-- a byte of a text; a backslash, a newline and a carriage return are escaped as `\\`, `\n` and `\r`
abbrev pub visible_byte : ℕ → List ℕ
visible_byte b =
    if b == backslash then backslash ∷ backslash ∷ []
    else (if b == line_feed then backslash ∷ small_n ∷ []
    else (if b == carriage_return then backslash ∷ small_r ∷ [] else b ∷ []))

-- a text in this form
unfoldable pub visible : List ℕ → List ℕ
visible text = flat_map visible_byte text
