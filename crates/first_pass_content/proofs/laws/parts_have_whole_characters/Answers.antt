use Rattle.first_pass_content.specs.Content.{content}
use Rattle.first_pass_content.proofs.ChainPieces.{content_piece}
use Rattle.first_pass_content.proofs.WholeRanges.{range_whole}
use Rattle.first_pass_content.proofs.laws.parts_have_whole_characters.Goals as goal

pub returns : goal.returns
returns c text tokens from to first past u is le starts ends =
    let r = range_whole text from to first past (content text tokens) u (content_piece text from to tokens is) le starts ends in
    (r.order, r.starts, r.ends)
