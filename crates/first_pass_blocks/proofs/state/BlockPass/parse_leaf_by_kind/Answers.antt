use Rattle.std.proofs.Common.{ap, ◌∙◌, arith}
use Rattle.first_pass_grammar.proofs.Common.{offset, unindented}
use Rattle.first_pass_blocks.proofs.Common.{all_keep}
use Rattle.first_pass_blocks.proofs.state.BlockPass.parse_leaf_by_kind.Goals as goal

pub offset-requires : goal.offset-requires
offset-requires c =
    let p = c.args.place in
    let i = all_keep c.args.self.now.source.text.now p.line p.rest c.requires.utf8 c.requires.place in
    let e = ap offset (c.kind_at-columns.ensures.place ∙ ap unindented c.copy-following.ensures) in
    let short = c.recall_length.ensures in
    omega (arith, i.within, e)
