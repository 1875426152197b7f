-- The record that is written for a node (this project).
use Rattle.std.specs.Prelude.{◌≡◌, ℕ, ◌+◌, List, [], slice_set}
use Rattle.first_pass_items.specs.declared.item.Item.{Item}
use Rattle.first_pass_items.specs.declared.item.ItemBody.{ItemBody}
use Rattle.first_pass_grammar.specs.Names.{Names}
use Rattle.first_pass_c.specs.FlatAttributes.{attributes_of_body}
use Rattle.first_pass_c.specs.FlatNodes.{IsShort, deeper_before, flat_node, name_of, named_at, named_length, place_after}
use Rattle.first_pass_c.specs.declared.flat.nodes.FlatPlace.{FlatPlace}
use Rattle.first_pass_c.specs.declared.flat.records.FlatNode.{FlatNode}

-- nodes with this body name nothing: their names are empty ranges of bytes, and they have no attributes (this project)
pub record NamesNothing (body : ItemBody) : Type 0 where
  pub start : (at : FlatPlace) → named_at at body ≡ at.name
  pub count : (names : Names) → named_length names body ≡ 0
  pub name : (names : Names) → name_of names body ≡ []
  pub attributes : (names : Names) → attributes_of_body names body ≡ []

-- the name of a node at a place has this range, and the next node that is not deeper has this index (this project)
pub record HasNameAndNext (names : Names) (at : FlatPlace) (n : ℕ × Item) (later : List (ℕ × Item)) (range : ℕ × ℕ) (next : ℕ) : Type 0 where
  pub start : range.0 ≡ named_at at n.1.body
  pub count : range.1 ≡ named_length names n.1.body
  pub next_is : next ≡ (at.node + 1) + deeper_before n.0 later

-- The new records are the old ones with that of this node, if the next node that is not deeper has this index. The
-- places are those before and after the node (this project).
pub record IsRecordWritten (names : Names) (n : ℕ × Item) (next : ℕ) (old new : List FlatNode) (places : FlatPlace × FlatPlace) : Type 0 where
  pub place : places.1 ≡ place_after names n.1.body places.0
  pub written : (later : List (ℕ × Item)) → next ≡ places.1.node + deeper_before n.0 later
      → new ≡ slice_set old places.0.node (flat_node names places.0 n later)

-- a number of the record of the node before a place needs more than 32 bits, if the next node that is not deeper has this index
-- (this project)
abbrev pub NeedsMoreBits : Names → ℕ × Item → ℕ → FlatPlace → Type 0
NeedsMoreBits names n next after =
    (before : FlatPlace) (later : List (ℕ × Item)) → after ≡ place_after names n.1.body before → next ≡ after.node + deeper_before n.0 later
    → IsShort (flat_node names before n later) → ⊥
