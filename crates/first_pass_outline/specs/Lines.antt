-- The printed form of an outline (this project).
use Rattle.std.specs.Prelude.{◌≡◌, ℕ, List, [], ◌++◌, Option, None, Some, codes, decimal}
use Rattle.std.specs.List.{flat_map}
use Rattle.first_pass_items.specs.declared.option_set.Options.{Options}
use Rattle.first_pass_lines.specs.Lines.{level_number}
use Rattle.first_pass_outline.specs.Outline.{Entry}
use Rattle.first_pass_outline.specs.TextOutline.{IsOutline}

-- an id after a space and `#`, if there is one (this project)
abbrev pub id_text : Option (List ℕ) → List ℕ
id_text None = []
id_text (Some id) = codes " #" ++ id

-- the line of an entry: the level of its heading, its range, and its id if it has one (this project)
abbrev pub entry_line : Entry → List ℕ
entry_line e =
    decimal (level_number e.level) ++ codes " " ++ decimal e.start ++ codes ".." ++ decimal e.«end» ++ id_text e.id ++ codes "\n"

-- the whole output for a text under options: the lines of its outline
pub record IsListed (options : Options) (text output : List ℕ) : Type 0 where
  pub entries : List Entry
  pub outline : IsOutline options text entries
  pub lines : output ≡ flat_map entry_line entries
