-- The page that shows a text with its tree: a template with values in it (this project).
use Rattle.std.specs.Prelude.{ℕ, List}
use Rattle.std.specs.List.{flat_map}
use Rattle.first_pass_json.specs.JsonValues.{json_string}
use Rattle.first_pass_json.specs.Scripts.{html_text, in_script}
use Rattle.first_pass_json.specs.declared.page.Part.{Part}
use Rattle.first_pass_json.specs.declared.page.Part.TheVariants.{Html, Title, Options, Text, Lines}
use Rattle.first_pass_json.specs.declared.page.TreePage.{TreePage}

-- a part of the template in the page of a text with these lines of its tree
abbrev pub part_text : TreePage → List ℕ → List ℕ → Part → List ℕ
part_text page text lines (Html bytes) = bytes.now
part_text page text lines Title = html_text page.title.now
part_text page text lines Options = html_text page.options.now
part_text page text lines Text = in_script (json_string text)
part_text page text lines Lines = in_script lines

-- the page of a text with these lines of its tree
unfoldable pub page_text : TreePage → List ℕ → List ℕ → List ℕ
page_text page text lines = flat_map (part_text page text lines) page.template.now
