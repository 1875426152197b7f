-- A place in a line, and the rest of the text from there on, in columns. Tabs behave as if they were replaced by spaces
-- with a tab stop of 4 (CommonMark 2.2).
use Rattle.std.specs.Prelude.{ℕ, ◌+◌, ◌-◌, ◌%◌, ◌==◌, zero, suc, List, [], ◌∷◌, drop, Option, Some, None, if◌then◌else◌}
use Rattle.std.specs.Option.{option_map_or}
use Rattle.first_pass_items.specs.Bytes.{tab, space, greater_than}

-- The remaining bytes, the number of bytes taken, and the columns that a partly taken tab owes. The last field is the
-- number of bytes taken since the last tab, or since the start of the line (this project).
pub record Rest : Type 0 where
  pub left : List ℕ
  pub taken : ℕ
  pub owed : ℕ
  pub column : ℕ

-- the rest after its first byte, given the bytes that follow it (this project)
abbrev pub past_byte : Rest → List ℕ → Rest
past_byte r bs = record { left = bs; taken = r.taken + 1; owed = 0; column = r.column + 1 }

-- The rest after one column of its first byte, if that is a space or a tab. A tab then owes its other columns, up to
-- the next tab stop (CommonMark 2.2).
abbrev pub column_of_byte : Rest → List ℕ → Option Rest
column_of_byte r [] = None
column_of_byte r (b ∷ bs) =
    if b == space
    then Some (past_byte r bs)
    else (if b == tab then Some (record { left = bs; taken = r.taken + 1; owed = 3 - r.column % 4; column = 0 }) else None)

-- the rest after one column; an owed column is taken first (CommonMark 2.2)
abbrev pub column_of : ℕ → Rest → Option Rest
column_of zero r = column_of_byte r r.left
column_of (suc owed) r = Some (record r { owed = owed })

-- the rest after one column, if there is one (CommonMark 2.2)
abbrev pub next_column : Rest → Option Rest
next_column r = column_of r.owed r

-- the rest after as many columns as there are, up to k (CommonMark 2.2)
abbrev pub after_columns : ℕ → Rest → Rest
after_columns zero r = r
after_columns (suc k) r = option_map_or (after_columns k) (next_column r) r

-- the columns of the spaces and tabs with which these bytes begin, given the number of bytes since the last tab
-- (CommonMark 2.2)
abbrev pub columns_of : List ℕ → ℕ → ℕ
columns_of [] column = 0
columns_of (b ∷ bs) column =
    if b == space then 1 + columns_of bs (column + 1) else (if b == tab then 4 - column % 4 + columns_of bs 0 else 0)

-- the columns of indentation, owed ones too (CommonMark 2.2)
abbrev pub indent : Rest → ℕ
indent r = r.owed + columns_of r.left r.column

-- the rest after its first n bytes (this project)
abbrev pub past_bytes : ℕ → Rest → Rest
past_bytes n r = record { left = drop n r.left; taken = r.taken + n; owed = 0; column = r.column + n }

-- the rest after the `>` with which these bytes begin (CommonMark 5.1, block quote marker)
abbrev pub past_quote_byte : Rest → List ℕ → Option Rest
past_quote_byte r [] = None
past_quote_byte r (b ∷ bs) = if b == greater_than then Some (past_byte r bs) else None

-- the rest after the block quote marker here, if no column is owed before it (CommonMark 5.1)
abbrev pub past_quote : Rest → Option Rest
past_quote r = if r.owed == 0 then past_quote_byte r r.left else None
