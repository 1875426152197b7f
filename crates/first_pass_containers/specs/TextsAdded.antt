-- A paragraph, setext heading or table that is added to a tree.
use Rattle.std.specs.Prelude.{◌≡◌, ◌≤◌, ℕ, List, Option, IsCharBoundary}
use Rattle.first_pass_items.specs.declared.item.Item.{Item}
use Rattle.first_pass_tree.specs.Forest.{Forest, added}
use Rattle.first_pass_lines.specs.Places.{Place, offset, line_end, IsPlaceOf}
use Rattle.first_pass_grammar.specs.declared.kind.Container.{Container}
use Rattle.first_pass_grammar.specs.Names.{Names, Extends}
use Rattle.first_pass_grammar.specs.Leaves.{Document, document}
use Rattle.first_pass_grammar.specs.Completion.{lines_from}
use Rattle.first_pass_grammar.specs.Tables.{taking}
use Rattle.first_pass_grammar.specs.Texts.{IsText}
use Rattle.first_pass_open.specs.Between.{line_end_at}
use Rattle.first_pass_open.specs.Path.{path_of}

-- These items are the paragraph, setext heading or table whose text begins at an offset, after a task list item
-- marker if there is one. The remaining lines begin at another offset (CommonMark 4.8, GFM 4.10).
abbrev pub IsTextAt : Document → List Container → ℕ → Option Item → List (ℕ × Item) → ℕ → Type 0
IsTextAt d path start marker items next =
    (p : Place) → IsPlaceOf d.text p → offset p ≡ start → IsText d path p marker (lines_from d.text (line_end p)) (taking items (lines_from d.text next))

-- Such a block is added as a last child of the innermost open node, and remains one under any further names
-- (CommonMark 4.8, GFM 4.10).
pub record AddsText (d : Document) (start : ℕ) (marker : Option Item) (old new : Forest Item) (next : ℕ) : Type 0 where
  pub items : List (ℕ × Item)
  pub is_text : (more : Names) → Extends more d.names → IsTextAt (document d.text d.options more) (path_of d.options old) start marker items next
  pub tree_is : new ≡ added old items
  pub later : line_end_at d.text start ≤ next
  pub boundary : IsCharBoundary d.text next
