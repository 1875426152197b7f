use Rattle.std.proofs.Common.{arith, append_assoc}
use Rattle.first_pass_tokens.proofs.DashLemmas.{times_more}
use Rattle.first_pass_tokens.proofs.named.push_times.Goals as goal

pub loop-preserved : goal.loop-preserved
loop-preserved c = grind (arith, append_assoc, times_more)
