use Rattle.std.proofs.Common.{arith}
use Rattle.first_pass_kinds.proofs.NoHeads.{no_headed}
use Rattle.first_pass_kinds.proofs.table_start.scan_headed_line.Goals as goal

pub returns-then-not-has_pipe_in_line-clause-value : goal.returns-then-not-has_pipe_in_line-clause-value
returns-then-not-has_pipe_in_line-clause-value c = grind (arith, no_headed)
