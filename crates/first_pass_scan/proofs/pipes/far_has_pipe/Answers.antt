use Rattle.std.proofs.Common.{arith}
use Rattle.std.proofs.lemmas.Bool.{false_from_ne_true, not_from_false, not_from_true}
use Rattle.first_pass_scan.proofs.UnpipedBytes.{pipe_at, no_pipe_in}
use Rattle.first_pass_scan.proofs.pipes.far_has_pipe.Goals as goal

pub returns-in-None : goal.returns-in-None
returns-in-None c = no_pipe_in c.args.bytes.now (λ k l. not_from_false _ (false_from_ne_true _ (c.in-None.ensures k (omega arith) l)))

pub returns-in-Some : goal.returns-in-Some
returns-in-Some c = grind (arith, pipe_at, not_from_false, false_from_ne_true, not_from_true)
