use Rattle.first_pass_grammar.proofs.Common.{taken_columns}
use Rattle.first_pass_kinds.proofs.interrupt.scan_line_crossed.Goals as goal

pub returns-clause-place : goal.returns-clause-place
returns-clause-place c =
    taken_columns c.args.source.now.text.now 4 c.args.start _ _ c.scan_front-front.ensures.utf8 c.scan_space_upto.ensures.rest c.scan_front-front.ensures.place
