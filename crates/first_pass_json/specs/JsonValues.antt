-- The JSON form of values (RFC 8259); numbers have the form of `decimal`.
use Rattle.std.specs.Prelude.{Option, None, Some, List, [], ◌∷◌, ◌++◌, ℕ, codes}
use Rattle.std.specs.List.{flat_map}
pub use Rattle.std.specs.Prelude.{decimal, encode_utf8}
use Rattle.json.specs.Print.{quoted}
pub use Rattle.first_pass_reports.specs.Printed.{flag_name as boolean}

-- a text as a string in quotation marks, with the shortest escapes, in the form of `serde_json`
unfoldable pub json_string : List ℕ → List ℕ
json_string text = quoted text

-- a word of letters, none of which needs an escape
abbrev pub word : List ℕ → List ℕ
word letters = codes "\"" ++ letters ++ codes "\""

-- a text, or `null` if there is none
abbrev pub text_or_null : Option (List ℕ) → List ℕ
text_or_null None = codes "null"
text_or_null (Some text) = json_string text

-- values, each after a comma
unfoldable pub after_commas : {A : Type 0} → (A → List ℕ) → List A → List ℕ
after_commas value xs = flat_map (λ x. codes "," ++ value x) xs

-- values, separated by commas
abbrev pub with_commas : {A : Type 0} → (A → List ℕ) → List A → List ℕ
with_commas value [] = []
with_commas value (x ∷ xs) = value x ++ after_commas value xs

-- an array of values
abbrev pub array : {A : Type 0} → (A → List ℕ) → List A → List ℕ
array value xs = codes "[" ++ with_commas value xs ++ codes "]"
