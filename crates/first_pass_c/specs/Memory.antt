-- Arrays of the caller (this project).
use Rattle.std.specs.Prelude.{◌≡◌, ℕ, List, length, take, drop}
use Rattle.first_pass_c.specs.declared.flat.records.FlatNode.{FlatNode}
use Rattle.first_pass_c.specs.declared.flat.records.FlatAttribute.{FlatAttribute}
use Rattle.first_pass_c.specs.declared.flat.records.FlatDefinition.{FlatDefinition}

-- the arrays into which a flat form is written (this project)
pub record Memory : Type 0 where
  pub nodes : List FlatNode
  pub attributes : List FlatAttribute
  pub definitions : List FlatDefinition
  pub names : List ℕ

abbrev pub memory : List FlatNode → List FlatAttribute → List FlatDefinition → List ℕ → Memory
memory nodes attributes definitions names = record { nodes = nodes; attributes = attributes; definitions = definitions; names = names }

-- an array begins with these values, and its rest is unchanged (this project)
pub record BeginsWith {X : Type 0} (values old new : List X) : Type 0 where
  pub front : take (length values) new ≡ values
  pub rest : drop (length values) new ≡ drop (length values) old
