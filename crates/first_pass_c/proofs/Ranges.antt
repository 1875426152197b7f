-- The record of a node has the same range of its name as the node.
use Rattle.std.proofs.Common.{◌≡◌, ℕ, ◌≤◌, List, length, Some, None, refl, le-leb}
use Rattle.first_pass_items.specs.declared.item.Item.{Item}
use Rattle.first_pass_items.specs.declared.item.ItemBody.{ItemBody}
use Rattle.first_pass_items.specs.declared.item.ItemBody.TheVariants.{Heading}
use Rattle.first_pass_grammar.specs.Names.{Names}
use Rattle.first_pass_c.specs.declared.flat.nodes.FlatPlace.{FlatPlace}
use Rattle.first_pass_c.specs.FlatNodes.{flat_node}
use Rattle.first_pass_places.specs.NamePlaces.{name_range}
use Rattle.first_pass_c.specs.Naming.{named_item, range_named}

-- the same for each kind
by_body : (text : List ℕ) (names : Names) (at : FlatPlace) (depth start stop : ℕ) (body : ItemBody) (later : List (ℕ × Item))
    → name_range text (named_item (flat_node names at (depth, record { start = start; «end» = stop; body = body }) later))
    ≡ name_range text (record { start = start; «end» = stop; body = body })
by_body text names at depth start stop (Heading level None) later = refl
by_body text names at depth start stop (Heading level (Some ix)) later = refl
by_body text names at depth start stop _ later = refl

pub same_range : (text : List ℕ) (names : Names) (at : FlatPlace) (n : ℕ × Item) (later : List (ℕ × Item))
    → n.1.start ≤ n.1.«end» → n.1.«end» ≤ length text → range_named text (flat_node names at n later) ≡ name_range text n.1
same_range text names at n later order within =
    rw (le-leb n.1.start n.1.«end» order, le-leb n.1.«end» (length text) within) (by_body text names at n.0 n.1.start n.1.«end» n.1.body later)
