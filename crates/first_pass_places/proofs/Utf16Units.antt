-- The units of UTF-16 that are counted in a text are those that its characters have.
use Rattle.std.proofs.Common.{◌≡◌, ℕ, ◌+◌, ◌/◌, ◌%◌, ◌<◌, ◌≤◌, ◌⊎◌, List, [], ◌∷◌, length, sym, ap₂, ◌∙◌, arith, inl, inr, flat_map, length-append}
use Rattle.std.proofs.lemmas.Bool.{cases_lt, le-ltb, lt-ltb}
use Rattle.std.proofs.lemmas.Bool.Decides.{nat_tests}
use Rattle.std.proofs.lemmas.List.Sums.{sum_by-append}
use Rattle.std.specs.Char.Escape.{encode_utf16}
use Rattle.std.specs.Str.{encode_utf8_all}
use lib.Utf8.{encode}
use Rattle.first_pass_places.specs.LineColumns.{units_of, utf16_len}

continues : (b : ℕ) → 128 ≤ b → b < 192 → units_of b ≡ 0
continues b low high = grind (arith, nat_tests)

begins_one : (b : ℕ) → b < 128 → units_of b ≡ 1
begins_one b small = grind (arith, nat_tests)

begins_more : (b : ℕ) → 192 ≤ b → b < 240 → units_of b ≡ 1
begins_more b low high = grind (arith, nat_tests)

begins_four : (b : ℕ) → 240 ≤ b → units_of b ≡ 2
begins_four b low = grind (arith, nat_tests)

one : (c : ℕ) → c < 128 → utf16_len (encode c) ≡ length (encode_utf16 c)
unfolding encode
one c small = rw (lt-ltb c 128 small, lt-ltb c 65536 (omega arith)) (omega (arith, begins_one c small))

two : (c : ℕ) → 128 ≤ c → c < 2048 → utf16_len (encode c) ≡ length (encode_utf16 c)
unfolding encode
two c low high =
    rw (le-ltb c 128 low, lt-ltb c 2048 high, lt-ltb c 65536 (omega arith))
    (omega (arith, begins_more (192 + c / 64) (omega arith) (omega arith), continues (128 + c % 64) (omega arith) (omega arith)))

three : (c : ℕ) → 2048 ≤ c → c < 65536 → utf16_len (encode c) ≡ length (encode_utf16 c)
unfolding encode
three c low high =
    rw (le-ltb c 128 (omega arith), le-ltb c 2048 low, lt-ltb c 65536 high)
    (omega (
      arith,
      begins_more (224 + c / 4096) (omega arith) (omega arith),
      continues (128 + c / 64 % 64) (omega arith) (omega arith),
      continues (128 + c % 64) (omega arith) (omega arith),
    ))

four : (c : ℕ) → 65536 ≤ c → utf16_len (encode c) ≡ length (encode_utf16 c)
unfolding encode
four c low =
    rw (le-ltb c 128 (omega arith), le-ltb c 2048 (omega arith), le-ltb c 65536 low)
    (omega (
      arith,
      begins_four (240 + c / 262144) (omega arith),
      continues (128 + c / 4096 % 64) (omega arith) (omega arith),
      continues (128 + c / 64 % 64) (omega arith) (omega arith),
      continues (128 + c % 64) (omega arith) (omega arith),
    ))

by_size : (c : ℕ) → (c < 128) ⊎ (128 ≤ c) → (c < 2048) ⊎ (2048 ≤ c) → (c < 65536) ⊎ (65536 ≤ c) → utf16_len (encode c) ≡ length (encode_utf16 c)
by_size c (inl small) more most = one c small
by_size c (inr low) (inl high) most = two c low high
by_size c (inr low) (inr more) (inl high) = three c more high
by_size c (inr low) (inr more) (inr most) = four c most

of_character : (c : ℕ) → utf16_len (encode c) ≡ length (encode_utf16 c)
of_character c = by_size c (cases_lt c 128) (cases_lt c 2048) (cases_lt c 65536)

pub of_text : (cs : List ℕ) → utf16_len (encode_utf8_all cs) ≡ length (flat_map encode_utf16 cs)
of_text [] = omega arith
of_text (c ∷ cs) =
    sum_by-append units_of (encode c) (encode_utf8_all cs) ∙ ap₂ (λ m n. m + n) (of_character c) (of_text cs)
    ∙ sym (length-append (encode_utf16 c) (flat_map encode_utf16 cs))
