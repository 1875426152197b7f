use Rattle.std.proofs.Common.{◌≡◌, replicate}
use Rattle.first_pass_grammar.proofs.Common.{chained}
use Rattle.first_pass_tables.specs.Appends.{empty_cell}
use Rattle.first_pass_tables.proofs.cells.fill_row.Given as goal

-- with the cells that are left, the tree becomes what it was to become with all cells at first
abbrev pub invariant-loop-left : goal.invariant-loop-left
invariant-loop-left l = chained l.tree (replicate l.left (empty_cell l.end)) ≡ chained l.initial.tree (replicate l.missing (empty_cell l.«end»))

abbrev pub decreases-loop-left : goal.decreases-loop-left
decreases-loop-left l = l.left
