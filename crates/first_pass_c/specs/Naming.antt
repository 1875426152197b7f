-- The range in which a text has what a node names, by the node's record (this project).
use Rattle.std.specs.Prelude.{ℕ, ◌==◌, ◌&&◌, nat_le, List, length, Option, Some, None, if◌then◌else◌}
use Rattle.std.specs.declared.ops.Range.{Range}
use Rattle.first_pass_items.specs.declared.item.Item.{Item}
use Rattle.first_pass_items.specs.declared.item.ItemBody.{ItemBody}
use Rattle.first_pass_items.specs.declared.item.ItemBody.TheVariants.{Root, Heading, FencedCodeBlock, FootnoteDefinition}
use Rattle.first_pass_items.specs.declared.item.HeadingLevel.TheVariants.{H1}
use Rattle.first_pass_c.specs.declared.flat.records.FlatNode.{FlatNode}
use Rattle.first_pass_places.specs.NamePlaces.{name_range}
use Rattle.first_pass_c.specs.declared.naming.FlatRange.{FlatRange}

-- the body of a node that names an info string, the label of a footnote or attributes, by its kind, with some index;
-- the root for any other node (this project)
abbrev pub body_of : FlatNode → ItemBody
body_of r =
    if r.kind == 4
    then (if r.second == 0 then Root else Heading H1 (Some (record { 0 = 0 })))
    else (if r.kind == 5
    then FencedCodeBlock (record { 0 = 0 })
    else (if r.kind == 11 then FootnoteDefinition (record { 0 = 0 }) else Root))

-- a node with this record; another index than its own does not change where the text has what it names (this project)
abbrev pub named_item : FlatNode → Item
named_item r = record { start = r.start; «end» = r.«end»; body = body_of r }

-- the range in which a text has what a node names, if the range of the node is in the text (this project)
abbrev pub range_named : List ℕ → FlatNode → Option (Range ℕ)
range_named text r = if nat_le r.start r.«end» && nat_le r.«end» (length text) then name_range text (named_item r) else None

-- a range as a record (this project)
abbrev pub flat_range : Range ℕ → FlatRange
flat_range range = record { start = range.start; «end» = range.«end» }
