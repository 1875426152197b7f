use Rattle.std.proofs.Common.{arith}
use Rattle.first_pass_tokens.proofs.PieceFacts.{reference_at}
use Rattle.first_pass_tokens.proofs.pieces.reference_found.Goals as goal

pub returns-in-Some-clause-ends : goal.returns-in-Some-clause-ends
returns-in-Some-clause-ends c = grind (arith, reference_at)
