use Rattle.first_pass_tokens.proofs.Common.{content_in, source}
use Rattle.first_pass_tokens.proofs.LineLemmas.{ends_line-if}
use Rattle.first_pass_tokens.proofs.SoFar.{read_ended}
use Rattle.first_pass_tokens.proofs.line.append_line.Goals as goal

pub returns-clause-line : goal.returns-clause-line
returns-clause-line c =
    rw c.text_upto-text.ensures.value at
    (read_ended (content_in c.text_upto-text.result.now c.args.content c.args.braces.now) _ _ _ _ c.in_ok-end.end c.append_pieces.new.braces
    c.end_line.result c.requires.no_cell c.in_ok-end.ensures.read (record { tree_is = c.end_line.ensures.tree; answer_is = c.end_line.ensures.answer }))

pub returns-clause-ends : goal.returns-clause-ends
returns-clause-ends c =
    ends_line-if _ c.append_pieces.new.braces
    (source c.args.content c.args.braces.now) c.args.tree.now c.end_line.new.tree c.end_line.result c.requires.within
    (returns-clause-line c)
