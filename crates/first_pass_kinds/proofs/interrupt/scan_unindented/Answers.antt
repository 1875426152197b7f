use Rattle.std.proofs.Common.{min, ap, ◌∙◌}
use Rattle.first_pass_grammar.proofs.Common.{indent, all_taken}
use Rattle.first_pass_kinds.proofs.Common.{text_place, path_of}
use Rattle.first_pass_kinds.proofs.interrupt.scan_unindented.Goals as goal

pub returns-clause-columns : goal.returns-clause-columns
returns-clause-columns c = c.scan_indentation-columns.ensures.columns ∙ ap (λ r. min 4 (indent r)) (c.copy-rest.ensures ∙ c.scan_front-front.ensures.front)

pub returns-clause-rest : goal.returns-clause-rest
returns-clause-rest c = c.scan_indentation-columns.ensures.rest ∙ ap all_taken (c.copy-rest.ensures ∙ c.scan_front-front.ensures.front)

pub returns-clause-place : goal.returns-clause-place
returns-clause-place c =
    (text_place c.args.source.now.text.now c.args.start (path_of c.args.source.now.options c.args.tree.now) c.scan_front-front.ensures.utf8 c.requires).0
