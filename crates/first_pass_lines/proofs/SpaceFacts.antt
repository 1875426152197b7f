-- If no column is owed, n spaces are n columns.
use Rattle.std.proofs.Common.{◌≡◌, ℕ, true, ◌+◌, ◌<◌, ◌≤◌, zero, suc, List, [], ◌∷◌, length, slice_index, drop, Some, refl, sym, ◌∙◌, ap, arith}
use Rattle.first_pass_lines.proofs.Common.{space, nat_tests}
use Rattle.first_pass_lines.specs.Lanes.{is_space}
use Rattle.first_pass_lines.specs.Rest.{Rest, past_byte, next_column, after_columns, indent, past_bytes}
use Rattle.first_pass_lines.proofs.Columns.{after-more, indent-some}

abbrev mk : List ℕ → ℕ → ℕ → ℕ → Rest
mk l t o c = record { left = l; taken = t; owed = o; column = c }

rest_by : (l m : List ℕ) (t u o p c d : ℕ) → l ≡ m → t ≡ u → o ≡ p → c ≡ d → mk l t o c ≡ mk m u p d
rest_by l m t u o p c d e f g h = rw e (rw f (rw g (rw h refl)))

pub space_is : (b : ℕ) → is_space b ≡ true → b ≡ space
space_is b h = grind (arith, nat_tests, h)

next_space : (r : Rest) (b : ℕ) (bs : List ℕ) → r.left ≡ b ∷ bs → r.owed ≡ 0 → b ≡ space → next_column r ≡ Some (past_byte r bs)
next_space r b bs l o first = rw o (rw l (rw first refl))

pub spaces_by : (n : ℕ) (bs : List ℕ) (r : Rest) → r.left ≡ bs → r.owed ≡ 0 → n ≤ length bs → ((k : ℕ) → k < n → slice_index bs k ≡ space)
    → (after_columns n r ≡ past_bytes n r) × (n ≤ indent r)
spaces_by zero bs r l o within all =
    (rest_by r.left r.left r.taken (r.taken + 0) r.owed 0 r.column (r.column + 0) refl (omega arith) o (omega arith), omega arith)
spaces_by (suc n) [] r l o within all = absurd (omega arith)
spaces_by (suc n) (b ∷ bs) r l o within all =
    let s : Rest = past_byte r bs in
    let next = next_space r b bs l o (all 0 (omega arith)) in
    let ih = spaces_by n bs s refl refl (omega arith) (λ k low. all (suc k) (omega arith)) in grind (arith, after-more, rest_by, indent-some)
