use Rattle.first_pass_grammar.proofs.Common.{taken_columns}
use Rattle.first_pass_leaves.proofs.indented_code.indented_line.Goals as goal

pub returns-clause-place : goal.returns-clause-place
returns-clause-place c = taken_columns c.args.source.now.text.now 4 c.args.start _ _ c.scan_continued_past.ensures.utf8 c.scan_space.ensures.rest
    c.in_ok-line_start.ensures.place
