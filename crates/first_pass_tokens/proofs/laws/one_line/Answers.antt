use Rattle.first_pass_tokens.proofs.AlikeLemmas.{one_line}
use Rattle.first_pass_tokens.proofs.laws.one_line.Goals as goal

pub returns : goal.returns
returns c = λ texts more s tokens others a b d e h k. one_line texts more s tokens others a b d e h k
