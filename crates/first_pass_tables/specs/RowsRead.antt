-- How far the rows of a table are read (only private functions cite this).
use Rattle.std.specs.Prelude.{◌≡◌, ℕ, ◌+◌, ◌≤◌, List, ◌++◌, length, IsCharBoundary}
use Rattle.first_pass_items.specs.declared.item.Item.{Item}
use Rattle.first_pass_tree.specs.Forest.{Forest, at_depth}
use Rattle.first_pass_grammar.specs.Leaves.{Document}
use Rattle.first_pass_grammar.specs.Completion.{lines_from}
use Rattle.first_pass_grammar.specs.Tables.{taking, AreRows}
use Rattle.first_pass_open.specs.Path.{path_of}
use Rattle.first_pass_tables.specs.Appends.{OpenTable, so_far}

-- The rows among the lines from an offset on are in the open table, and the remaining lines begin at another offset.
pub record AppendsBody (d : Document) (columns start : ℕ) (old : OpenTable) (new : Forest Item) (next : ℕ) : Type 0 where
  pub body : List (ℕ × Item)
  pub are_rows : AreRows d (path_of d.options old.tree) (so_far columns old) (lines_from d.text start) (taking body (lines_from d.text next))
  pub nodes : new.nodes ≡ old.tree.nodes ++ at_depth (length old.tree.spine + 1) body
  pub spine : new.spine ≡ old.tree.spine
  pub later : start ≤ next
  pub boundary : IsCharBoundary d.text next
