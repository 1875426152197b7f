use Rattle.std.proofs.Common.{arith}
use Rattle.first_pass_leaves.proofs.FencedLemmas.{no_fence}
use Rattle.first_pass_leaves.proofs.fenced_code.begins_otherwise.Goals as goal

pub returns-then-fence-gt0 : goal.returns-then-fence-gt0
returns-then-fence-gt0 c = grind (arith, no_fence)
