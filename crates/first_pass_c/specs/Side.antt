-- The parts of the flat form other than its nodes (this project).
use Rattle.std.specs.Prelude.{◌≡◌, ℕ, List, length}
use Rattle.first_pass_items.specs.declared.item.Item.{Item}
use Rattle.first_pass_grammar.specs.Names.{Names}
use Rattle.first_pass_grammar.specs.Derivation.{Tables}
use Rattle.first_pass_c.specs.FlatForm.{flat_form, node_names}
use Rattle.first_pass_c.specs.declared.flat.side.SideTables.{SideTables}

-- these are the attributes, the definitions and the names of the flat form of nodes and tables (this project)
pub record AreSideTables (side : SideTables) (names : Names) (nodes : List (ℕ × Item)) (tables : Tables) : Type 0 where
  pub attributes : side.attributes.items ≡ (flat_form names nodes tables).attributes
  pub definitions : side.definitions.items ≡ (flat_form names nodes tables).definitions
  pub links : side.links ≡ (flat_form names nodes tables).links
  pub names_are : side.names.items ≡ (flat_form names nodes tables).names
  pub node_names_are : side.node_names ≡ length (node_names names nodes)
