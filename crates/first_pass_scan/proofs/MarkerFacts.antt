-- Facts on the digits of a list marker, and on the indent of an item.
use Rattle.std.proofs.Common.{◌≡◌, ℕ, zero, suc, [], ◌∷◌, ◌+◌, ◌<◌, ◌≤◌, min, List, true, false, is_some, length, take, get_or, refl, ap}
use Rattle.std.proofs.Common.{◌∙◌, arith, get_or-take, length-take-le}
use Rattle.std.specs.List.{prefix_len}
use Rattle.std.specs.Char.{is_ascii_digit}
use Rattle.std.proofs.lemmas.List.Sums.{prefix_len_passes, prefix_len-le-length}
use Rattle.std.proofs.lemmas.Bool.Decides.{nat_tests}
use Rattle.std.proofs.lemmas.Bool.{lt-leb}
use Rattle.first_pass_items.specs.Bytes.{digit_zero, digit_nine}
use Rattle.first_pass_lines.specs.Lines.{blank_len}
use Rattle.first_pass_lines.specs.Rest.{Rest, after_columns, indent}
use Rattle.first_pass_scan.specs.Markers.{content_indent}
use Rattle.first_pass_lines.proofs.PlaceFacts.{all_columns_up_to}

-- each byte in the run of digits is a digit
pub digits-at : (bs : List ℕ) (n : ℕ)
    → n ≡ prefix_len is_ascii_digit bs → n ≤ length bs → (i : ℕ) → i < length (take n bs) → (digit_zero ≤ get_or (take n bs) i 0)
    × (get_or (take n bs) i 0 ≤ digit_nine)
digits-at bs n e l i h =
    let w : i < n = omega (arith, length-take-le n bs l) in
    let r = get_or-take n bs i 0 w in
    let p = prefix_len_passes is_ascii_digit bs i 0 (omega arith) in
    let q : is_ascii_digit (get_or (take n bs) i 0) ≡ true = ap is_ascii_digit r ∙ p in
    (grind (arith, nat_tests, q), grind (arith, nat_tests, q))

-- the run of digits among the first n bytes
digits_near : (n : ℕ) (bs : List ℕ) → prefix_len is_ascii_digit (take n bs) ≡ min n (prefix_len is_ascii_digit bs)
digits_near zero bs = let none : prefix_len is_ascii_digit (take 0 bs) ≡ 0 = refl in omega (arith, none)
digits_near (suc n) [] = omega arith
digits_near (suc n) (b ∷ bs) = grind (arith, digits_near n bs)

-- ten digits are enough to tell a list marker's run of digits from a longer one
pub ten_digits : (bs : List ℕ) (n k : ℕ) → n ≡ min (length bs) 10 → k ≡ prefix_len is_ascii_digit (take n bs) → k ≡ min 10 (prefix_len is_ascii_digit bs)
ten_digits bs n k size run = omega (arith, size, run, digits_near n bs, prefix_len-le-length is_ascii_digit bs)

-- the content of an item after fewer than four columns
pub content_indent-bound : (n k : ℕ) (r s : Rest) → is_some (blank_len r.left) ≡ false → s ≡ after_columns 4 r → k ≡ min 4 (indent r) → (k ≡ 4 → ⊥)
    → (n + k ≡ (content_indent n r).0) × (s ≡ (content_indent n r).1)
unfolding content_indent
content_indent-bound n k r s h e m bound =
    let small : indent r < 4 = omega arith in
    let same : k ≡ indent r = omega arith in
    let all : s ≡ after_columns (indent r) r = e ∙ all_columns_up_to 4 r (omega arith) in
    rw (same, all, h, lt-leb 4 (indent r) small) (refl, refl)
