-- A label with single spaces, byte by byte.
use Rattle.std.proofs.Common.{◌≡◌, ℕ, true, false, List, [], ◌∷◌, ◌++◌, length, slice_index, arith, refl, sym, ◌∙◌, append_assoc, append-nil}
use Rattle.first_pass_items.specs.Bytes.{space}
use Rattle.first_pass_lines.specs.Lines.{is_white_or_line_end}
use Rattle.first_pass_links.specs.Labels.{single_spaced}

module _ (line : List ℕ) (b : ℕ) (bs : List ℕ) where
  pub solid_byte : is_white_or_line_end b ≡ false → (line ++ b ∷ []) ++ single_spaced bs ≡ line ++ single_spaced (b ∷ bs)
  unfolding single_spaced
  solid_byte h = rw h (append_assoc line (b ∷ []) (single_spaced bs))

  pub white_byte : is_white_or_line_end b ≡ true → is_white_or_line_end (slice_index bs 0) ≡ true → line ++ single_spaced bs ≡ line ++ single_spaced (b ∷ bs)
  unfolding single_spaced
  white_byte h k = rw (h, k) refl

  pub last_white_byte : is_white_or_line_end b ≡ true → is_white_or_line_end (slice_index bs 0) ≡ false
      → (line ++ space ∷ []) ++ single_spaced bs ≡ line ++ single_spaced (b ∷ bs)
  unfolding single_spaced
  last_white_byte h k = rw (h, k) (append_assoc line (space ∷ []) (single_spaced bs))

pub all_spelled : (line whole rest : List ℕ) → length rest ≡ 0 → line ++ single_spaced rest ≡ whole → line ≡ whole
unfolding single_spaced
all_spelled line whole [] none so_far = sym (append-nil line) ∙ so_far
all_spelled line whole (b ∷ bs) none so_far = absurd (omega (arith, none))
