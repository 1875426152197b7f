-- Columns taken one at a time.
use Rattle.std.proofs.Common.{◌≡◌, ℕ, ◌+◌, suc, zero, List, ◌∷◌, Bool, true, false, MatchOption, Option, Some, None, refl, sym, ◌∙◌, ap, arith, []}
use Rattle.std.specs.Option.{option_map_or}
use Rattle.first_pass_lines.specs.Rest.{Rest, column_of, column_of_byte, next_column, after_columns, columns_of, indent}

pub after-more : (k j : ℕ) (r s : Rest) → k ≡ suc j → next_column r ≡ Some s → after_columns k r ≡ after_columns j s
after-more k j r s e h = ap (λ i. after_columns i r) e ∙ ap (λ o. option_map_or (after_columns j) o r) h

pub after-none : (k : ℕ) (r : Rest) → next_column r ≡ None → after_columns k r ≡ r
after-none zero r h = refl
after-none (suc k) r h = ap (λ o. option_map_or (after_columns k) o r) h

byte-some : (r s : Rest) (bs : List ℕ) → column_of_byte r bs ≡ Some s → columns_of bs r.column ≡ 1 + indent s
byte-some r s [] h = cc
byte-some r s (b ∷ bs) h = grind (arith, h)

owed-some : (o : ℕ) (r s : Rest) → column_of o r ≡ Some s → o + columns_of r.left r.column ≡ 1 + indent s
owed-some zero r s h = omega (arith, byte-some r s r.left h)
owed-some (suc o) r s h = let e : record r { owed = o } ≡ s = cc in omega (arith, ap indent e)

pub indent-some : (r s : Rest) → next_column r ≡ Some s → indent r ≡ 1 + indent s
indent-some r s h = owed-some r.owed r s h

-- the result of a call that takes one column: `true` if there is one, `false` otherwise
pub taken-yes : (o : Option Rest) (old new : Rest) (b : Bool)
    → MatchOption o ((b ≡ false) × (new ≡ old)) (λ next. (b ≡ true) × (new ≡ next)) → b ≡ true → o ≡ Some new
taken-yes None old new b h e = cc
taken-yes (Some s) old new b h e = ap Some (sym h.1)

-- all columns, one at a time
pub all-more : (r s : Rest) → next_column r ≡ Some s → after_columns (indent s) s ≡ after_columns (indent r) r
all-more r s h = sym (after-more (indent r) (indent s) r s (omega (arith, indent-some r s h)) h)

pub all-none : (r : Rest) → next_column r ≡ None → after_columns (indent r) r ≡ r
all-none r h = after-none (indent r) r h
