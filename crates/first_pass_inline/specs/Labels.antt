-- What labels name in a text.
use Rattle.std.specs.Prelude.{List}
use Rattle.first_pass_items.specs.declared.cow_str.CowStr.{CowStr}
use Rattle.first_pass_items.specs.declared.option_set.Options.{Options}
use Rattle.first_pass_labels.specs.declared.label_table.FootnoteDef.{FootnoteDef}
use Rattle.first_pass_labels.specs.declared.label_table.LinkDef.{LinkDef}

-- the options of a text, and its tables of definitions and of footnotes
pub record TextLabels : Type 0 where
  pub options : Options
  pub definitions : List (CowStr × LinkDef)
  pub footnotes : List (CowStr × FootnoteDef)

abbrev pub text_labels : Options → List (CowStr × LinkDef) → List (CowStr × FootnoteDef) → TextLabels
text_labels options definitions footnotes = record { options = options; definitions = definitions; footnotes = footnotes }
