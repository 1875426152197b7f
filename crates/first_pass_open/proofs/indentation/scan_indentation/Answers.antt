use Rattle.std.proofs.Common.{ap, sym, ◌∙◌}
use Rattle.first_pass_grammar.proofs.Common.{Rest, indent, after_columns}
use Rattle.first_pass_open.proofs.PlainLemmas.{none_all, none_few}
use Rattle.first_pass_open.proofs.PlaceLemmas.{all_after}
use Rattle.first_pass_open.proofs.indentation.scan_indentation.Goals as goal

pub returns-then-has_no_column-clause-columns : goal.returns-then-has_no_column-clause-columns
returns-then-has_no_column-clause-columns c = none_few c.args.line_start.now (sym c.if-has_no_column.true ∙ c.has_no_column.ensures)

pub returns-then-has_no_column-clause-rest : goal.returns-then-has_no_column-clause-rest
returns-then-has_no_column-clause-rest c = sym (none_all c.args.line_start.now (sym c.if-has_no_column.true ∙ c.has_no_column.ensures))

pub returns-clause-rest : goal.returns-clause-rest
returns-clause-rest c =
    c.scan_all_space.ensures ∙ ap (λ (r : Rest). after_columns (indent r) r) c.scan_space_upto-columns.ensures.rest ∙ all_after 4 c.args.line_start.now
