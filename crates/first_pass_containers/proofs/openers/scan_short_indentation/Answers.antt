use Rattle.std.proofs.Common.{sym, ◌∙◌, arith}
use Rattle.first_pass_grammar.proofs.Common.{all_columns_up_to}
use Rattle.first_pass_open.proofs.PlainLemmas.{none_all, none_few}
use Rattle.first_pass_containers.proofs.openers.scan_short_indentation.Goals as goal

pub returns-then-has_no_column-clause-columns : goal.returns-then-has_no_column-clause-columns
returns-then-has_no_column-clause-columns c = none_few c.args.line_start.now (sym c.if-has_no_column.true ∙ c.has_no_column.ensures)

pub returns-then-has_no_column-clause-rest : goal.returns-then-has_no_column-clause-rest
returns-then-has_no_column-clause-rest c = λ few. sym (none_all c.args.line_start.now (sym c.if-has_no_column.true ∙ c.has_no_column.ensures))

pub returns-clause-rest : goal.returns-clause-rest
returns-clause-rest c = λ few.
    c.scan_space_upto.ensures.rest ∙ all_columns_up_to 4 c.args.line_start.now (omega (arith, few, c.scan_space_upto.ensures.value))
