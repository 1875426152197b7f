-- A character that a JSON string has without an escape.
use Rattle.std.proofs.Common.{◌≡◌, ℕ, ◌≤◌, [], ◌∷◌, ◌++◌, encode_utf8, sym, ap, ◌∙◌, arith}
use Rattle.first_pass_grammar.proofs.Common.{backslash}
use Rattle.std.proofs.lemmas.Str.{encode_ascii}
use Rattle.json.specs.Print.{quoted}
use Rattle.first_pass_items.specs.Bytes.{quotation_mark}
use Rattle.first_pass_json.specs.JsonValues.{json_string}
use Rattle.json.proofs.Printed.Strings.{escape_byte_plain}

-- a visible ASCII character other than a quotation mark and a backslash
pub plain_character : (b : ℕ) → 33 ≤ b → b ≤ 126 → (b ≡ quotation_mark → ⊥) → (b ≡ backslash → ⊥)
    → quotation_mark ∷ b ∷ quotation_mark ∷ [] ≡ json_string (encode_utf8 b)
unfolding json_string
plain_character b low high no_quote no_backslash =
    sym (ap quoted (encode_ascii b (omega arith))
    ∙ ap (λ l. quotation_mark ∷ ((l ++ []) ++ quotation_mark ∷ [])) (escape_byte_plain b no_quote no_backslash (omega arith)))
