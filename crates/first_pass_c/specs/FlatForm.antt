-- The flat form of a tree and its tables (this project).
use Rattle.std.specs.Prelude.{ℕ, List, ◌++◌, length}
use Rattle.std.specs.List.{flat_map}
use Rattle.first_pass_items.specs.declared.item.Item.{Item}
use Rattle.first_pass_grammar.specs.Names.{Names}
use Rattle.first_pass_grammar.specs.Derivation.{Tables}
use Rattle.first_pass_c.specs.FlatNodes.{flat_nodes, first_place, name_by}
use Rattle.first_pass_c.specs.FlatAttributes.{flat_attributes, attributes_by, attribute_bytes}
use Rattle.first_pass_c.specs.FlatDefinitions.{flat_definitions, entries_of, definition_bytes}
use Rattle.first_pass_c.specs.declared.flat.records.FlatNode.{FlatNode}
use Rattle.first_pass_c.specs.declared.flat.records.FlatAttribute.{FlatAttribute}
use Rattle.first_pass_c.specs.declared.flat.records.FlatDefinition.{FlatDefinition}

-- a tree and its tables as records, the number of link definitions, and the bytes that the records name (this project)
pub record FlatForm : Type 0 where
  pub nodes : List FlatNode
  pub attributes : List FlatAttribute
  pub definitions : List FlatDefinition
  pub links : ℕ
  pub names : List ℕ

-- the bytes that nodes name (this project)
abbrev pub node_names : Names → List (ℕ × Item) → List ℕ
node_names names nodes = flat_map (name_by names) nodes

-- the bytes that nodes and the attributes of headings name (this project)
abbrev pub tree_names : Names → List (ℕ × Item) → List ℕ
tree_names names nodes = node_names names nodes ++ flat_map attribute_bytes (flat_map (attributes_by names) nodes)

-- the flat form of nodes, whose indices are read in these names, and of tables (this project)
abbrev pub flat_form : Names → List (ℕ × Item) → Tables → FlatForm
flat_form names nodes tables = record {
  nodes = flat_nodes names first_place nodes;
  attributes = flat_attributes (length (node_names names nodes)) (flat_map (attributes_by names) nodes);
  definitions = flat_definitions (length (tree_names names nodes)) (entries_of tables);
  links = length tables.links;
  names = tree_names names nodes ++ flat_map definition_bytes (entries_of tables);
}
