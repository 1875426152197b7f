use Rattle.std.proofs.Common.{arith}
use Rattle.first_pass_scan.proofs.TableFacts.{found-none, found-more, found-last, cells-refused}
use Rattle.first_pass_scan.proofs.table_scan.scan_delimiter_cells.Goals as goal

pub returns-in_default : goal.returns-in_default
returns-in_default c = grind (arith, cells-refused)

pub returns-then-end-rest : goal.returns-then-end-rest
returns-then-end-rest c = grind (arith, found-last)

pub loop-column-init : goal.loop-column-init
loop-column-init c = grind (arith, found-none)

pub loop-column-preserved : goal.loop-column-preserved
loop-column-preserved c = grind (arith, found-more)
