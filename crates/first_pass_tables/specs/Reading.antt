-- The cells of a row that are read so far; only private functions of this crate cite this.
use Rattle.std.specs.Prelude.{◌≡◌, ℕ, ◌+◌, ◌≤◌, true, false, List, ◌++◌, length, None}
use Rattle.first_pass_items.specs.declared.item.Item.{Item}
use Rattle.first_pass_tree.specs.Forest.{Forest, at_depth}
use Rattle.first_pass_tokens.specs.Braces.{MathBraces}
use Rattle.first_pass_tokens.specs.LineTokens.{Spot, spot}
use Rattle.first_pass_grammar.specs.Names.{Names, Extends}
use Rattle.first_pass_grammar.specs.Leaves.{Document, document}
use Rattle.first_pass_grammar.specs.Tables.{AreCells, side_by_side}
use Rattle.first_pass_tables.specs.declared.row.CellsRead.{CellsRead}

-- these cells, followed by any cells from a second place on, are the cells from the first place on, under any further
-- names (this project)
abbrev pub GoOn : Document → Spot → List (List (ℕ × Item)) → Spot → Type 0
GoOn d start cells at =
    (later : Names) → Extends later d.names → (more : List (List (ℕ × Item))) (to : Spot) → AreCells (document d.text d.options later) at more to
    → AreCells (document d.text d.options later) start (cells ++ more) to

-- this many cells from a place on are in the innermost open node, and the search for the next one begins at another
-- place (this project)
pub record AreAppended (d : Document) (start : Spot) (old new : Forest Item) (at : Spot) (count : ℕ) : Type 0 where
  pub cells : List (List (ℕ × Item))
  pub count_is : count ≡ length cells
  pub go_on : GoOn d start cells at
  pub nodes : new.nodes ≡ old.nodes ++ at_depth (length old.spine + 1) (side_by_side cells)
  pub spine : new.spine ≡ old.spine
  pub none : new.current ≡ None → new.nodes ≡ old.nodes
  pub later : start.at + count ≤ at.at
  pub within : at.at ≤ length d.text

-- all cells of a row that begins at a place are in the innermost open node (this project)
pub record AreAllAppended (d : Document) (start : Spot) (old new : Forest Item) (to : Spot) (count : ℕ) : Type 0 where
  pub cells : List (List (ℕ × Item))
  pub count_is : count ≡ length cells
  pub are_cells : AreCells d start cells to
  pub nodes : new.nodes ≡ old.nodes ++ at_depth (length old.spine + 1) (side_by_side cells)
  pub spine : new.spine ≡ old.spine
  pub later : start.at + count ≤ to.at
  pub within : to.at ≤ length d.text

-- The cells of the row that begins at a place are appended, up to a number: all of them if the row ended, otherwise
-- that number. The call returns the offset up to which they were read, and the brace contexts there (this project).
pub record AppendsSome (d : Document) (most : ℕ) (start : Spot) (old new : Forest Item) (answer : CellsRead × MathBraces) : Type 0 where
  pub node_bound : answer.0.count ≤ most
  pub all : answer.0.ended ≡ true → AreAllAppended d start old new (spot answer.0.at answer.1) answer.0.count
  pub first : answer.0.ended ≡ false → AreAppended d start old new (spot answer.0.at answer.1) answer.0.count × (answer.0.count ≡ most)
