-- The call that words denote (this project).
use Rattle.std.specs.Prelude.{◌≡◌, ◌<◌, ℕ, Bool, false, List, [], Option, Some, None, IsSomeAnd, codes, if◌then◌else◌, map, option_map, unwrap_or}
use Rattle.std.specs.List.{flat_map}
use Rattle.std.specs.Option.{option_map_or}
use Rattle.std.specs.Str.{bytes_eq}
use Rattle.clap.specs.Words.{Row, all_of, first_of, subcommand_of}
use Rattle.first_pass_host.specs.Task.{AsksFor}
use Rattle.first_pass_program.specs.Apps.{first_pass_app}
use Rattle.first_pass_program.specs.OptionNames.{bits_with, words_in}
use Rattle.first_pass_program.specs.declared.words.call.Call.{Call}
use Rattle.first_pass_program.specs.declared.words.call.Form.{Form}
use Rattle.first_pass_program.specs.declared.words.call.Form.TheVariants.{Text, Json}
use Rattle.first_pass_program.specs.declared.words.call.ReportName.{ReportName}
use Rattle.first_pass_program.specs.declared.words.call.ReportName.TheVariants.{Blocks, Outline, Links, Tree, Toc, View, Bench}

-- the values of an argument
abbrev pub values_in : List ℕ → List Row → List (List ℕ)
values_in id rows = unwrap_or (all_of id rows) []

-- whether a flag is among the words
abbrev pub is_on : List ℕ → List Row → Bool
is_on flag rows = option_map_or (λ value. bytes_eq value (codes "true")) (first_of flag rows) false

-- the form that the flag `--json` gives a report
abbrev pub form_of : List Row → Form
form_of rows = if is_on (codes "json") rows then Json else Text

-- a word gives a number of runs: a decimal value from 1 to 999,999,999
abbrev pub GivesRuns : List ℕ → ℕ → Type 0
GivesRuns word runs = AsksFor word runs × (runs < 1_000_000_000)

-- the number of runs, if a word gives one
abbrev pub AsksRuns : Option (List ℕ) → Option ℕ → Type 0
AsksRuns None runs = runs ≡ None
AsksRuns (Some word) runs = IsSomeAnd runs (GivesRuns word)

-- the report of the command with this name, with what its flags and options say
abbrev pub IsReport : List ℕ → List Row → ReportName → Type 0
IsReport name rows Blocks = name ≡ codes "blocks"
IsReport name rows (Outline form) = (name ≡ codes "outline") × (form ≡ form_of rows)
IsReport name rows (Links form) = (name ≡ codes "links") × (form ≡ form_of rows)
IsReport name rows (Tree lines text) = (name ≡ codes "tree") × (lines ≡ is_on (codes "lines") rows) × (text ≡ is_on (codes "text") rows)
IsReport name rows (Toc form) = (name ≡ codes "toc") × (form ≡ form_of rows)
IsReport name rows View = name ≡ codes "view"
IsReport name rows (Bench runs) = (name ≡ codes "bench") × AsksRuns (first_of (codes "runs") rows) runs

-- the call of a command with what its words give for each of its arguments
pub record DenotesAt (name : List ℕ) (rows : List Row) (call : Call) : Type 0 where
  pub report : IsReport name rows call.report
  pub options : bits_with (Some 0) (flat_map words_in (values_in (codes "options") rows)) ≡ Some call.options.0
  pub strips : call.strips ≡ is_on (codes "strip-bom") rows
  pub files : map (λ file. file.now) call.files.items ≡ values_in (codes "files") rows
  pub list : option_map (λ list. list.now) call.list ≡ first_of (codes "files-from") rows

-- the call that words denote, of which the first is the program's name: clap's reading of them names the command
pub record Denotes (words : List (List ℕ)) (call : Call) : Type 0 where
  pub name : List ℕ
  pub rows : List Row
  pub read : subcommand_of first_pass_app words ≡ Some (name, rows)
  pub denotes : DenotesAt name rows call
