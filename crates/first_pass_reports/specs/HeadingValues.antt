-- The printed form of the level and the attributes of a heading (this project).
use Rattle.std.specs.Prelude.{ℕ, Option, None, Some, List, [], ◌++◌, codes, decimal}
use Rattle.std.specs.List.{flat_map}
use Rattle.first_pass_items.specs.declared.item.HeadingLevel.{HeadingLevel}
use Rattle.first_pass_lines.specs.Lines.{level_number}
use Rattle.first_pass_attributes.specs.Attributes.{Attributes}
use Rattle.first_pass_reports.specs.Visible.{in_parentheses, visible}

-- an id after a comma and `#`, if there is one (this project)
abbrev pub id_value : Option (List ℕ) → List ℕ
id_value None = []
id_value (Some id) = codes ",#" ++ visible id

-- a class after a comma and `.` (this project)
abbrev pub class_value : List ℕ → List ℕ
class_value class = codes ",." ++ visible class

-- classes in this form, in their order
unfoldable pub class_values : List (List ℕ) → List ℕ
class_values classes = flat_map class_value classes

-- the value of a key after `=`, if it has one (this project)
abbrev pub value_after_key : Option (List ℕ) → List ℕ
value_after_key None = []
value_after_key (Some value) = codes "=" ++ visible value

-- a key and its value, after a comma (this project)
abbrev pub key_value : List ℕ × Option (List ℕ) → List ℕ
key_value pair = codes "," ++ visible pair.0 ++ value_after_key pair.1

-- keys in this form, in their order
unfoldable pub key_values : List (List ℕ × Option (List ℕ)) → List ℕ
key_values pairs = flat_map key_value pairs

-- the attributes of a heading: its id, then its classes, then its keys, each after a comma (this project)
abbrev pub attribute_values : Option Attributes → List ℕ
attribute_values None = []
attribute_values (Some given) = id_value given.id ++ class_values given.classes ++ key_values given.attrs

-- the values of a heading in parentheses: its level, then its attributes (this project)
abbrev pub heading_values : HeadingLevel → Option Attributes → List ℕ
heading_values level attributes = in_parentheses (decimal (level_number level) ++ attribute_values attributes)
