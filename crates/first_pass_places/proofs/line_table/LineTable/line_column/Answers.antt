use Rattle.std.proofs.Common.{◌∙◌, ap}
use Rattle.first_pass_places.specs.LineColumns.{line_column}
use Rattle.first_pass_places.proofs.line_table.LineTable.line_column.Goals as goal

pub returns : goal.returns
returns c = c.line_column_after.ensures ∙ ap (λ text. line_column text c.args.offset) c.self.view_is
