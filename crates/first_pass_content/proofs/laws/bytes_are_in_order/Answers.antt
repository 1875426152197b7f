use Rattle.first_pass_content.proofs.ChainPieces.{content_piece}
use Rattle.first_pass_content.proofs.laws.bytes_are_in_order.Goals as goal

pub returns : goal.returns
returns c text tokens from to is = (content_piece text from to tokens is).ranges
