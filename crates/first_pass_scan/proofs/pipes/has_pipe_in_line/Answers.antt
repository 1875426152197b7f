use Rattle.std.proofs.Common.{arith}
use Rattle.std.proofs.lemmas.Bool.{cases_lt}
use Rattle.std.proofs.lemmas.List.{take_rest}
use Rattle.first_pass_scan.proofs.UnpipedBytes.{pipe_at, past_unpiped}
use Rattle.first_pass_scan.proofs.pipes.has_pipe_in_line.Goals as goal

pub returns-in-Some : goal.returns-in-Some
returns-in-Some c = grind (arith, pipe_at, cases_lt)

pub returns : goal.returns
returns c = grind (arith, take_rest, past_unpiped)
