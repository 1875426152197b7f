use Rattle.std.proofs.Common.{arith}
use Rattle.first_pass_kinds.proofs.NoHeads.{no_head}
use Rattle.first_pass_kinds.proofs.table_start.scan_table_at.Goals as goal

pub returns-then-begins_no_row-clause-value : goal.returns-then-begins_no_row-clause-value
returns-then-begins_no_row-clause-value c = grind (arith, no_head)
