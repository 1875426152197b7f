-- The outline of a tree: its headings, in reading order (this project).
use Rattle.std.specs.Prelude.{ℕ, List, Option, Some, None}
use Rattle.std.specs.List.{filter_map}
use Rattle.std.specs.Option.{option_map, option_and_then}
use Rattle.first_pass_items.specs.declared.item.HeadingLevel.{HeadingLevel}
use Rattle.first_pass_items.specs.declared.item.Item.{Item}
use Rattle.first_pass_items.specs.declared.item.ItemBody.{ItemBody}
use Rattle.first_pass_items.specs.declared.item.ItemBody.TheVariants.{Heading}
use Rattle.first_pass_grammar.specs.Names.{Named, AText, Alignments, OfHeading}

-- an entry of an outline: the level of a heading, its id if it has one, and its range (CommonMark 4.2, 4.3, this
-- project)
pub record Entry : Type 0 where
  pub level : HeadingLevel
  pub id : Option (List ℕ)
  pub start : ℕ
  pub «end» : ℕ

-- the level of a heading; no other node has one (CommonMark 4.2, 4.3)
abbrev pub heading_level_of : ItemBody → Option HeadingLevel
heading_level_of (Heading level index) = Some level
heading_level_of _ = None

-- the id in the entry of an index: only attributes may have one (this project)
abbrev pub id_in : Named → Option (List ℕ)
id_in (OfHeading attributes) = attributes.id
id_in (AText text) = None
id_in (Alignments columns) = None

-- the entry of a node with the entry of its index, if it is a heading (this project)
abbrev pub entry_of : Item × Option Named → Option Entry
entry_of (x, named) =
    option_map (λ level. record { level = level; id = option_and_then id_in named; start = x.start; «end» = x.«end» }) (heading_level_of x.body)

-- the outline of nodes with the entries of their indices: the entries of the headings, in the same order
-- (this project)
abbrev pub outline_of : List (ℕ × (Item × Option Named)) → List Entry
outline_of nodes = filter_map (λ node. entry_of node.1) nodes
