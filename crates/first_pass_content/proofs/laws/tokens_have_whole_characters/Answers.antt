use Rattle.first_pass_content.proofs.WholeTokens.{whole_tokens}
use Rattle.first_pass_content.proofs.laws.tokens_have_whole_characters.Goals as goal

pub returns : goal.returns
returns c text tokens from to u is = whole_tokens text u from to tokens is
