-- The reports that a call may ask for (this project).
use Rattle.std.specs.Prelude.{ℕ, Bool, true, false, List, Option}
use Rattle.first_pass_items.specs.declared.option_set.Options.{Options}
use Rattle.first_pass_host.specs.TreeReports.{AreTreeLines, Lines}
use Rattle.first_pass_json.specs.JsonLines.{lines_in}
use Rattle.first_pass_json.specs.PlacedRanges.{if_wanted, placed_members}
use Rattle.first_pass_json.specs.declared.page.Part.{Part}
use Rattle.first_pass_linked.specs.Lines.{plain_forms}
use Rattle.first_pass_linked.specs.LinkLines.{AreLinkLines}
use Rattle.first_pass_linked_json.specs.LinkObjects.{json_forms}
use Rattle.first_pass_outline.specs.ContentsLines.{list_lines, nested_lines, outline_lines}
use Rattle.first_pass_outline.specs.Lines.{IsListed}
use Rattle.first_pass_reports.specs.Printed.{printed_lines}
use Rattle.first_pass_program.specs.declared.words.call.Form.TheVariants.{Text, Json}
use Rattle.first_pass_program.specs.declared.words.call.ReportName.{ReportName}
use Rattle.first_pass_program.specs.declared.words.call.ReportName.TheVariants.{Blocks, Outline, Links, Tree, Toc, View, Bench}
use Rattle.first_pass_command.specs.Named.{SaysHeadings, SaysNamed}
use Rattle.first_pass_command.specs.Pages.{SaysPage}
use Rattle.first_pass_command.specs.Timed.{IsTimedLine}

-- the relation between options, a text and the whole report on it
abbrev pub Relation : Type 1
Relation = Options → List ℕ → List ℕ → Type 0

-- the relation of a report in lines of JSON: on one of several files they have its name
abbrev pub named_if : Bool → Relation → List ℕ → Relation
named_if true lines = SaysNamed lines
named_if false lines = λ name. lines

-- the relation of a report that is an array of JSON: on one of several files an object has its name and the array
abbrev pub headings_if : Bool → Relation → List ℕ → Relation
headings_if true array = SaysHeadings array
headings_if false array = λ name. array

-- the lines of the tree of a text in JSON, with lines and columns if `lines` is true, and with the texts of ranges if
-- `source` is true
abbrev pub tree_lines : Bool → Bool → Lines
tree_lines lines source text = lines_in (placed_members (if_wanted lines text) (if_wanted source text))

-- the relation of the report that is asked for, by the name of the file; the template of a page, whether there are several
-- files, and the readings of the clock
abbrev pub says_in : ReportName → List Part → Bool → Option (List ℕ) → List ℕ → Relation
says_in Blocks template many clock = λ name. AreTreeLines (λ _. printed_lines)
says_in (Outline Text) template many clock = λ name. IsListed
says_in (Outline Json) template many clock = named_if many (AreTreeLines (λ text names nodes _. outline_lines text names nodes))
says_in (Links Text) template many clock = λ name. AreLinkLines plain_forms
says_in (Links Json) template many clock = named_if many (AreLinkLines json_forms)
says_in (Tree lines text) template many clock = named_if many (AreTreeLines (tree_lines lines text))
says_in (Toc Text) template many clock = λ name. AreTreeLines (λ text names nodes _. list_lines text names nodes)
says_in (Toc Json) template many clock = headings_if many (AreTreeLines (λ text names nodes _. nested_lines text names nodes))
says_in View template many clock = SaysPage template
says_in (Bench runs) template many clock = λ name. IsTimedLine runs clock

-- whether files have headings: several files, but not in JSON and not on a page
abbrev pub is_headed : ReportName → Bool → Bool
is_headed (Outline Json) many = false
is_headed (Links Json) many = false
is_headed (Toc Json) many = false
is_headed (Tree lines text) many = false
is_headed View many = false
is_headed report many = many
