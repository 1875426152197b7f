-- The options that the words after a program's name denote (this project).
use Rattle.std.specs.Prelude.{◌≡◌, ℕ, List, [], ◌∷◌, bit_and, String, string_bytes}
use Rattle.std.specs.Str.Parse.{IsNumeral, digits_value}

-- the bits of all options: 1 to 15
abbrev pub known_bits : ℕ
known_bits = 65534

-- a word that denotes options with these bits: one or more ASCII digits, whose decimal value has only bits of options
abbrev pub WordMeans : List ℕ → ℕ → Type 0
WordMeans word bits = IsNumeral 10 word × (digits_value 10 word ≡ bits) × (bit_and bits known_bits ≡ bits)

-- words that denote options with these bits: no word for no options, or one word
abbrev pub WordsMean : {A : Type 0} → List (String A) → ℕ → Type 0
WordsMean [] bits = bits ≡ 0
WordsMean (word ∷ []) bits = WordMeans (string_bytes word) bits
WordsMean (word ∷ other ∷ more) bits = ⊥
