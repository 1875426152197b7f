use Rattle.first_pass_tokens.proofs.LineLemmas.{content_of}
use Rattle.first_pass_tokens.proofs.laws.content_has_no_line_end.Goals as goal

pub returns : goal.returns
returns c = λ texts s pieces to within division k low high. (content_of within division).plain k low high
