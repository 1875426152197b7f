use Rattle.first_pass.proofs.TextTokens.{open_ordered, open_tokens}
use Rattle.first_pass.proofs.laws.lines_are_tokens.Goals as goal

pub returns : goal.returns
returns c = λ d f block l utf8 holds. (open_tokens d utf8 f block l holds, open_ordered d utf8 f block l holds)
