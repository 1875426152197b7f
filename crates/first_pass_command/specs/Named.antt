-- Lines of JSON with the name of a file (this project).
use Rattle.std.specs.Prelude.{◌≡◌, ◌==◌, ℕ, ◌-◌, Bool, true, if◌then◌else◌, List, [], ◌∷◌, ◌++◌, codes, length, take}
use Rattle.first_pass_host.specs.Runs.{LeavesReport}
use Rattle.first_pass_host.specs.Streams.{Stream, IsUntouched}
use Rattle.first_pass_host.specs.declared.fault.RunFault.{RunFault}
use Rattle.first_pass_host.specs.declared.fault.RunFault.TheVariants.{ReadFailed}
use Rattle.first_pass_items.specs.declared.option_set.Options.{Options}
use Rattle.first_pass_json.specs.JsonValues.{json_string}

-- the member of an object with the name of a file, and a comma
abbrev pub file_member : List ℕ → List ℕ
file_member name = codes "\"file\":" ++ (json_string name ++ codes ",")

-- lines, each with a member after its first byte, which is the brace of an object; whether a line starts here
abbrev pub with_member : Bool → List ℕ → List ℕ → List ℕ
with_member starts member [] = []
with_member starts member (b ∷ rest) = b ∷ ((if starts then member else []) ++ with_member (b == 10) member rest)

-- the lines of a report on the text of a file, each with the name
pub record SaysNamed (Says : Options → List ℕ → List ℕ → Type 0) (name : List ℕ) (options : Options) (text whole : List ℕ) : Type 0 where
  pub lines : List ℕ
  pub says : Says options text lines
  pub named : whole ≡ with_member true (file_member name) lines

-- the line of an array of JSON, which a newline follows, as the member `headings` of an object with the name of a file
abbrev pub headings_line : List ℕ → List ℕ → List ℕ
headings_line name array = codes "{" ++ (file_member name ++ (codes "\"headings\":" ++ (take (length array - 1) array ++ codes "}\n")))

-- the line of a report on the text of a file that is an array of JSON, with the name
pub record SaysHeadings (Says : Options → List ℕ → List ℕ → Type 0) (name : List ℕ) (options : Options) (text whole : List ℕ) : Type 0 where
  pub array : List ℕ
  pub says : Says options text array
  pub named : whole ≡ headings_line name array

-- what a fault of a report on a file leaves written: nothing, if the clock can't be read
abbrev pub LeavesNamed : (Options → List ℕ → List ℕ → Type 0) → RunFault → Options → List ℕ → Stream → Type 0
LeavesNamed Says ReadFailed options text output = IsUntouched output
LeavesNamed Says fault options text output = LeavesReport Says fault options text output
