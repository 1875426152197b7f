use Rattle.std.proofs.Common.{◌∙◌, arith}
use Rattle.first_pass_places.proofs.LineColumnSteps.{at_least}
use Rattle.first_pass_places.proofs.line_column.line_column_after.Goals as goal

pub returns : goal.returns
returns c = c.loop-at.invariant ∙ at_least c.args.text.now c.args.offset c.loop-at.at (omega arith)
