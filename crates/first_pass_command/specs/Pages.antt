-- The page of a file (this project).
use Rattle.std.specs.Prelude.{◌≡◌, ℕ, List, codes, if◌then◌else◌}
use Rattle.std.specs.Str.{bytes_eq}
use Rattle.first_pass_host.specs.TreeReports.{AreTreeLines}
use Rattle.first_pass_items.specs.declared.option_set.Options.{Options}
use Rattle.first_pass_json.specs.JsonLines.{json_lines}
use Rattle.first_pass_json.specs.Page.{page_text}
use Rattle.first_pass_json.specs.declared.page.Part.{Part}
use Rattle.first_pass_json.specs.declared.page.TreePage.{TreePage}
use Rattle.first_pass_program.specs.OptionNames.{names_text}

-- the title of the page of a file: `-` is standard input
abbrev pub title_of : List ℕ → List ℕ
title_of name = if bytes_eq name (codes "-") then codes "standard input" else name

-- the page of the text of a file: the template with the name of the file as the title, the names of the options, and the
-- text with the lines of its tree
pub record SaysPage (template : List Part) (name : List ℕ) (options : Options) (text whole : List ℕ) : Type 0 where
  pub page : TreePage
  pub title : page.title.now ≡ title_of name
  pub names : page.options.now ≡ names_text options.0
  pub made_of : page.template.now ≡ template
  pub says : AreTreeLines (λ text names nodes tables. page_text page text (json_lines names nodes tables)) options text whole
