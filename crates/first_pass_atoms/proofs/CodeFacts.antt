-- The text of code, from the bytes as they are.
use Rattle.std.proofs.Common.{◌≡◌, ℕ, ◌-◌, ◌≤◌, true, false, true≢false, ◌==◌, ◌&&◌, List, [], ◌∷◌, length, take, drop, map, get_or, sym, ap, ◌∙◌, arith}
use Rattle.std.specs.List.{list_all}
use Rattle.std.proofs.lemmas.List.{length-map, take-map, drop-map, get_or-map}
use Rattle.first_pass_items.specs.Bytes.{space}
use Rattle.first_pass_lines.specs.Lines.{begins, ends}
use Rattle.first_pass_atoms.specs.CodeText.{spaced_byte, spaced, is_space, is_padded, code_text}

-- the last byte
pub ends_spaced : (bs : List ℕ) → 1 ≤ length bs → ends space (spaced bs) ≡ is_space (spaced_byte (get_or bs (length bs - 1) 0))
ends_spaced [] h = absurd (omega arith)
ends_spaced (b ∷ bs) h =
    let at : length (map spaced_byte bs) ≡ length bs = length-map bs spaced_byte in
    let index : length bs ≡ length (b ∷ bs) - 1 = omega arith in
    ap (λ x. x == space) (ap (λ k. get_or (map spaced_byte (b ∷ bs)) k 0) at
    ∙ get_or-map spaced_byte (b ∷ bs) (length bs) 0 0 (omega arith)
    ∙ ap (λ k. spaced_byte (get_or (b ∷ bs) k 0)) index)

-- two bytes at least are there if the first is a space and another one is not
pub padded_size : (bs : List ℕ) → begins space (spaced bs) ≡ true → list_all is_space (spaced bs) ≡ false → 2 ≤ length bs
padded_size [] h n = absurd (true≢false (sym h))
padded_size (b ∷ []) h n = absurd (true≢false (sym (ap (λ t. t && true) h) ∙ n))
padded_size (b ∷ c ∷ bs) h n = omega arith

-- what is kept
pub kept_padded : (bs : List ℕ) → is_padded (spaced bs) ≡ true → spaced (take (length bs - 1 - 1) (drop 1 bs)) ≡ code_text bs
unfolding code_text
kept_padded bs h =
    let n : ℕ = length bs - 1 - 1 in
    let count : n ≡ length (spaced bs) - 2 = omega (arith, length-map bs spaced_byte) in
    rw h (sym (take-map spaced_byte n (drop 1 bs)) ∙ ap (take n) (sym (drop-map spaced_byte 1 bs)) ∙ ap (λ k. take k (drop 1 (spaced bs))) count)
