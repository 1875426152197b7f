use Rattle.std.proofs.Common.{arith}
use Rattle.first_pass_labels.proofs.FoldingLemmas.{own_by_run}
use Rattle.first_pass_labels.proofs.folding.is_own_folding.Goals as goal

pub returns-then-bytes-le-LANES : goal.returns-then-bytes-le-LANES
returns-then-bytes-le-LANES c = grind (arith, own_by_run)
