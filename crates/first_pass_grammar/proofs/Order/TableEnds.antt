-- A row ends in the text, at or after the place where it begins.
use Rattle.std.proofs.Common.{ℕ, ◌≤◌, List, length, arith, length-drop}
use Rattle.first_pass_grammar.proofs.Common.{Item, line_len-fits, Spot, Document, AreCells}
use Rattle.first_pass_grammar.proofs.Order.RowEnds.{row_ends_its_line}
pub use Rattle.first_pass_grammar.proofs.Order.RowEnds.{text_within}

pub cells_end : (d : Document) (p : Spot) (cells : List (List (ℕ × Item))) (to : Spot) → p.at ≤ length d.text → AreCells d p cells to
    → (p.at ≤ to.at) × (to.at ≤ length d.text)
cells_end d p cells to within are = grind (arith, row_ends_its_line, line_len-fits, length-drop)
