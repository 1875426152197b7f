use Rattle.first_pass_content.proofs.ChainPieces.{content_piece}
use Rattle.first_pass_content.proofs.laws.content_is_utf8.Goals as goal

pub returns : goal.returns
returns c text tokens from to u is = (content_piece text from to tokens is).utf8 u
