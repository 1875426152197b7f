-- The first definitions of a text by the keys of their labels, and the keys of the labels of footnotes. Only contracts of
-- private functions cite this.
use Rattle.std.specs.Prelude.{◌≡◌, ℕ, List, Option}
use Rattle.std.specs.BTreeMap.{BTreeMap, get}
use Rattle.std.specs.BTreeSet.{BTreeSet, contains}
use Rattle.std.specs.List.{list_any}
use Rattle.std.specs.Option.{option_map}
use Rattle.first_pass_items.specs.declared.cow_str.CowStr.{CowStr}
use Rattle.first_pass_labels.specs.Foldings.{folding_of, label_cmp}
use Rattle.first_pass_labels.specs.declared.label_table.LinkDef.{LinkDef}
use Rattle.first_pass_targets.specs.Keys.{first_with_key, has_key}
use Rattle.first_pass_targets.specs.declared.definition_index.First.{First}

-- a definition, and its index
abbrev pub pair_of : First → ℕ × LinkDef
pair_of f = (f.index, f.definition.now)

-- the definition under a key, and its index (this project)
abbrev pub first_at : BTreeMap CowStr First → CowStr → Option (ℕ × LinkDef)
first_at firsts key = option_map pair_of (get label_cmp firsts key)

-- under each key is the definition of the table that begins first in the text, and its index (CommonMark 4.7)
abbrev pub IsIndexOf : BTreeMap CowStr First → List (CowStr × LinkDef) → Type 0
IsIndexOf firsts table = (key : CowStr) → first_at firsts key ≡ first_with_key (folding_of key) 0 table

-- a key is in the set exactly if a label of the table has it (CommonMark 6.3)
abbrev pub AreKeysOf : {X : Type 0} → BTreeSet CowStr → List (CowStr × X) → Type 0
AreKeysOf keys table = (key : CowStr) → contains label_cmp keys key ≡ list_any (λ e. has_key (folding_of key) e.0) table
