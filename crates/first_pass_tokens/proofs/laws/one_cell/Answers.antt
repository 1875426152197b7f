use Rattle.first_pass_tokens.proofs.AlikeLemmas.{one_cell}
use Rattle.first_pass_tokens.proofs.laws.one_cell.Goals as goal

pub returns : goal.returns
returns c = λ texts more s tokens others a b d e h k. one_cell texts more s tokens others a b d e h k
