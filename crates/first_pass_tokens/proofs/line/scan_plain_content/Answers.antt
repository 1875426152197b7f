use Rattle.first_pass_tokens.proofs.line.scan_plain_content.Goals as goal

pub returns-clause-cell : goal.returns-clause-cell
returns-clause-cell c = rw c.text_upto-text.ensures.value at c.plain_content_in.ensures.cell

pub returns-clause-some : goal.returns-clause-some
returns-clause-some c = rw c.text_upto-text.ensures.value at c.plain_content_in.ensures.some

pub returns-clause-none : goal.returns-clause-none
returns-clause-none c = rw c.text_upto-text.ensures.value at c.plain_content_in.ensures.none
