-- Appended records, with the bytes that they name (this project).
use Rattle.std.specs.Prelude.{◌≡◌, List, ◌++◌, length}
use Rattle.std.specs.List.{flat_map}
use Rattle.first_pass_grammar.specs.LinkTables.{LinkEntry}
use Rattle.first_pass_c.specs.FlatAttributes.{OneAttribute, attribute_bytes, flat_attributes}
use Rattle.first_pass_c.specs.FlatDefinitions.{definition_bytes, flat_definitions}
use Rattle.first_pass_c.specs.declared.flat.attributes.NamedAttributes.{NamedAttributes}
use Rattle.first_pass_c.specs.declared.flat.definitions.NamedDefinitions.{NamedDefinitions}

-- more attributes are appended: their records to the records, and their bytes to the names (this project)
pub record AppendsAttributes (old new : NamedAttributes) (more : List OneAttribute) : Type 0 where
  pub attributes : new.attributes.items ≡ old.attributes.items ++ flat_attributes (length old.names.items) more
  pub names : new.names.items ≡ old.names.items ++ flat_map attribute_bytes more

-- more definitions are appended: their records to the records, and their bytes to the names (this project)
pub record AppendsDefinitions (old new : NamedDefinitions) (more : List LinkEntry) : Type 0 where
  pub definitions : new.definitions.items ≡ old.definitions.items ++ flat_definitions (length old.names.items) more
  pub names : new.names.items ≡ old.names.items ++ flat_map definition_bytes more
