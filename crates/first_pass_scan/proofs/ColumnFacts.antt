-- If no column is next, there is no indentation.
use Rattle.std.proofs.Common.{◌≡◌, ℕ, zero, suc, ◌+◌, List, [], ◌∷◌, None, refl, arith}
use Rattle.first_pass_lines.specs.Rest.{Rest, column_of, column_of_byte, next_column, columns_of, indent}

no_owed : (o : ℕ) (r : Rest) → column_of o r ≡ None → o + columns_of r.left r.column ≡ 0
no_owed zero r h = by r.left h
  where
    by : (bs : List ℕ) → column_of_byte r bs ≡ None → 0 + columns_of bs r.column ≡ 0
    by [] h = refl
    by (b ∷ bs) h = grind (arith, h)
no_owed (suc o) r h = absurd cc

pub no_column : (r : Rest) → next_column r ≡ None → indent r ≡ 0
no_column r h = no_owed r.owed r h
