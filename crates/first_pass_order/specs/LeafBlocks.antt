-- A leaf block that is added at a place.
use Rattle.std.specs.Prelude.{◌≡◌, ℕ, Bool, List}
use Rattle.first_pass_items.specs.declared.item.Item.{Item}
use Rattle.first_pass_tree.specs.Forest.{Forest, added}
use Rattle.first_pass_lines.specs.Places.{Place, line_end}
use Rattle.first_pass_grammar.specs.Kinds.{Kind}
use Rattle.first_pass_grammar.specs.Names.{Names, Extends}
use Rattle.first_pass_grammar.specs.Leaves.{Document, document}
use Rattle.first_pass_grammar.specs.Blocks.{leaf_block}
use Rattle.first_pass_grammar.specs.Skeleton.{Line, OpensLeaf, OpensAs}
use Rattle.first_pass_grammar.specs.Completion.{lines_from}
use Rattle.first_pass_open.specs.Path.{path_of}

-- A leaf block of a kind that begins at a place is added as a last child of the innermost open node, and remains one
-- under any further names. With `gap` it has blank lines at its end. The remaining lines begin at an offset.
pub record AddsKind (d : Document) (p : Place) (kind : Kind) (gap : Bool) (old new : Forest Item) (next : ℕ) : Type 0 where
  pub items : List (ℕ × Item)
  pub tree_is : new ≡ added old items
  pub opens : (more : Names) → Extends more d.names
      → OpensAs (document d.text d.options more) (path_of d.options old) p (lines_from d.text (line_end p)) kind
      (OpensLeaf (leaf_block kind p items gap) Line (lines_from d.text next))
