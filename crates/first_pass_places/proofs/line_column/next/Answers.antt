use Rattle.std.proofs.Common.{◌+◌, ◌∙◌, ap, arith, sym}
use Rattle.first_pass_places.proofs.LineColumnSteps.{at_most_two, column_bound, line_bound, next_column, next_line}
use Rattle.first_pass_places.proofs.line_column.next.Goals as goal

pub overflow_add-result : goal.overflow_add-result
overflow_add-result c = omega (arith, line_bound c.args.text.now c.args.at c.args.place c.requires.known)

pub overflow_add-result-2 : goal.overflow_add-result-2
overflow_add-result-2 c =
    omega (arith, column_bound c.args.text.now c.args.at c.args.place c.requires.known, c.units_of.ensures, at_most_two)

pub returns-then-ends_line : goal.returns-then-ends_line
returns-then-ends_line c =
    next_line c.args.text.now c.args.at c.args.place c.requires.known c.requires.within (sym c.ends_line.ensures ∙ c.if-ends_line.true)

pub returns : goal.returns
returns c =
    ap (λ u. record { line = c.args.place.line; column = c.args.place.column + u }) c.units_of.ensures
    ∙ next_column c.args.text.now c.args.at c.args.place c.requires.known c.requires.within (sym c.ends_line.ensures ∙ c.if-ends_line.false)
