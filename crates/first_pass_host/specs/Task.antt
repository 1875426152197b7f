-- The task in the words after the program's name (this project).
use Rattle.std.specs.Prelude.{◌≡◌, ℕ, ◌<◌, ◌^◌, List, [], ◌∷◌, None, IsSomeAnd, String, string_bytes}
use Rattle.std.specs.Str.Parse.{IsNumeral, digits_value}
use Rattle.first_pass_host.specs.OptionWord.{WordsMean, WordMeans}
use Rattle.first_pass_host.specs.declared.task.Task.{Task}

-- a word that gives this number of runs: one or more ASCII digits, whose decimal value is from 1 to 2^32 - 1
abbrev pub AsksFor : List ℕ → ℕ → Type 0
AsksFor word runs = IsNumeral 10 word × (digits_value 10 word ≡ runs) × (0 < runs) × (runs < 2 ^ 32)

-- words that give a task: at most one word for the options, or a word for the options and one for the number of runs
abbrev pub AskFor : {A : Type 0} → List (String A) → Task → Type 0
AskFor {A} [] task = (task.runs ≡ None) × WordsMean {A = A} [] task.options.0
AskFor (bits ∷ []) task = (task.runs ≡ None) × WordMeans (string_bytes bits) task.options.0
AskFor (bits ∷ runs ∷ []) task = WordMeans (string_bytes bits) task.options.0 × IsSomeAnd task.runs (AsksFor (string_bytes runs))
AskFor (bits ∷ runs ∷ other ∷ more) task = ⊥
