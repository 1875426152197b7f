use Rattle.first_pass_places.proofs.LineColumnSteps.{at_start}
use Rattle.first_pass_places.proofs.line_column.line_column_at.Goals as goal

pub line_column_after-requires-clause-known : goal.line_column_after-requires-clause-known
line_column_after-requires-clause-known c = at_start c.args.text.now
