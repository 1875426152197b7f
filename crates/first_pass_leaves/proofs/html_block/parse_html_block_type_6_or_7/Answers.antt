use Rattle.std.proofs.Common.{arith}
use Rattle.first_pass_leaves.proofs.HtmlLemmas.{more_open, html_more, blank_extent}
use Rattle.first_pass_leaves.proofs.html_block.parse_html_block_type_6_or_7.Goals as goal

pub close_block-requires : goal.close_block-requires
close_block-requires c = grind (arith, more_open)

pub returns-clause-block : goal.returns-clause-block
returns-clause-block c = λ p i.
    let options = c.args.source.now.options in
    let line = c.in_ok-next.ensures.line in
    let next_is = c.in_ok-next.ensures.next.0 in
    let lines = rw (c.in_ok-next.ensures.path options) at c.in_ok-lines.ensures.lines in
    html_more options c.args.tree.now line next_is p i c.in_ok-lines.ensures.more.names lines _ c.close_block.new.tree
    (blank_extent options c.args.tree.now line next_is p i) c.close_block.ensures.tree
