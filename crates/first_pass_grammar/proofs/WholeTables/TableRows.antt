-- Each row of a table has as many cells as the table has columns.
use Rattle.std.proofs.Common.{◌≡◌, ℕ, List, ◌++◌, length, take, replicate, arith, length-append, length-take, []}
use Rattle.first_pass_grammar.proofs.Common.{Item, cell_block, inserted}
use Rattle.std.proofs.lemmas.List.{length-replicate}

-- The first cells of a row and the empty ones at its end are as many as the columns.
pub as_many_cells : (columns : ℕ) (cells : List (List (ℕ × Item))) («end» : ℕ)
    → length (take columns cells ++ replicate (inserted columns cells) (cell_block «end» «end» [])) ≡ columns
as_many_cells columns cells end = grind (arith, length-append, length-replicate, length-take)
