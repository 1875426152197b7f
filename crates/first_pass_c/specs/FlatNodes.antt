-- Nodes as records, with the bytes that they name (this project).
use Rattle.std.specs.Prelude.{ℕ, ◌+◌, ◌<◌, ◌^◌, List, [], ◌∷◌, length, map, nat_lt}
use Rattle.std.specs.List.{prefix_len}
use Rattle.first_pass_items.specs.declared.item.Item.{Item}
use Rattle.first_pass_items.specs.declared.item.ItemBody.{ItemBody}
use Rattle.first_pass_items.specs.declared.item.ItemBody.TheVariants.{Heading, FencedCodeBlock, FootnoteDefinition, SynthesizeText, Table}
use Rattle.first_pass_grammar.specs.Names.{Names, text_named, alignments_named}
use Rattle.first_pass_c.specs.Kinds.{alignment_byte, kind_number, values_of}
use Rattle.first_pass_c.specs.FlatAttributes.{attributes_of_body}
use Rattle.first_pass_c.specs.declared.flat.nodes.FlatPlace.{FlatPlace}
use Rattle.first_pass_c.specs.declared.flat.records.FlatNode.{FlatNode}

-- the bytes that a node names: an info string, a label, a text, or a byte for each column of a table (this project)
abbrev pub name_of : Names → ItemBody → List ℕ
name_of names (FencedCodeBlock ix) = text_named names ix
name_of names (FootnoteDefinition ix) = text_named names ix
name_of names (SynthesizeText ix) = text_named names ix
name_of names (Table ix) = map alignment_byte (alignments_named names ix)
name_of names _ = []

abbrev pub name_by : Names → ℕ × Item → List ℕ
name_by names node = name_of names node.1.body

-- where the name of a node at a place begins: for a heading the index of its first attribute, for any other node the
-- offset of its first byte in the names (this project)
abbrev pub named_at : FlatPlace → ItemBody → ℕ
named_at at (Heading level ix) = at.attribute
named_at at _ = at.name

-- the length of the name of a node: for a heading its number of attributes, for any other node its number of bytes
-- (this project)
abbrev pub named_length : Names → ItemBody → ℕ
named_length names (Heading level ix) = length (attributes_of_body names (Heading level ix))
named_length names body = length (name_of names body)

-- the number of nodes at the start of a list that are deeper than this depth (this project)
abbrev pub deeper_before : ℕ → List (ℕ × Item) → ℕ
deeper_before depth nodes = prefix_len (λ n. nat_lt depth n.0) nodes

-- the record of a node at a place, before later nodes; `next` is the index of the first of these that is not deeper,
-- or the number of all nodes (this project)
abbrev pub flat_node : Names → FlatPlace → ℕ × Item → List (ℕ × Item) → FlatNode
flat_node names at n later = record {
  start = n.1.start;
  «end» = n.1.«end»;
  depth = n.0;
  next = (at.node + 1) + deeper_before n.0 later;
  string_start = named_at at n.1.body;
  string_length = named_length names n.1.body;
  number = (values_of n.1.body).number;
  kind = kind_number n.1.body;
  first = (values_of n.1.body).first;
  second = (values_of n.1.body).second;
  third = (values_of n.1.body).third;
}

-- the place after a node (this project)
abbrev pub place_after : Names → ItemBody → FlatPlace → FlatPlace
place_after names body at = record {
  node = at.node + 1;
  name = at.name + length (name_of names body);
  attribute = at.attribute + length (attributes_of_body names body);
}

-- the records of consecutive nodes from a place on (this project)
unfoldable pub flat_nodes : Names → FlatPlace → List (ℕ × Item) → List FlatNode
flat_nodes names at [] = []
flat_nodes names at (n ∷ later) = flat_node names at n later ∷ flat_nodes names (place_after names n.1.body at) later

-- the place of the first node (this project)
abbrev pub first_place : FlatPlace
first_place = record { node = 0; name = 0; attribute = 0 }

-- each number of a record fits into 32 bits (this project)
pub record IsShort (r : FlatNode) : Type 0 where
  pub start : r.start < 2 ^ 32
  pub «end» : r.«end» < 2 ^ 32
  pub depth : r.depth < 2 ^ 32
  pub next : r.next < 2 ^ 32
  pub string_start : r.string_start < 2 ^ 32
  pub string_length : r.string_length < 2 ^ 32
  pub number : r.number < 2 ^ 32
