use Rattle.first_pass_scan.proofs.HeaderRows.{head-by-pipes, head-without-pipes}
use Rattle.first_pass_scan.proofs.table_start.law_of_head_columns.Goals as goal

pub returns-clause-none : goal.returns-clause-none
returns-clause-none c = head-without-pipes c.args.bytes.now

pub returns-clause-some : goal.returns-clause-some
returns-clause-some c = head-by-pipes c.args.bytes.now
