use Rattle.first_pass_scan.proofs.HeaderRows.{IsCounted}
use Rattle.first_pass_scan.proofs.table_start.count_pipes.Given as goal

abbrev pub invariant-loop-at : goal.invariant-loop-at
invariant-loop-at l = record { counted : IsCounted l.row l.at l.pipes l.end }
