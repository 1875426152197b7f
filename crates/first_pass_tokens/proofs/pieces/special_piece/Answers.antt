use Rattle.std.proofs.Common.{arith}
use Rattle.first_pass_tokens.proofs.Common.{nat_tests}
use Rattle.first_pass_tokens.proofs.QuickPieces.{other_plain}
use Rattle.first_pass_tokens.proofs.pieces.special_piece.Goals as goal

-- where `quick_piece` finds none, any other byte is plain text
pub returns-in_default-clause-value : goal.returns-in_default-clause-value
returns-in_default-clause-value c b = grind (arith, other_plain, nat_tests)
