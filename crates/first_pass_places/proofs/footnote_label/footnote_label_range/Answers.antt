use Rattle.std.proofs.Common.{arith}
use Rattle.first_pass_places.proofs.RangeBoundaries.{label_between}
use Rattle.first_pass_places.proofs.footnote_label.footnote_label_range.Goals as goal

pub returns-clause-boundary : goal.returns-clause-boundary
returns-clause-boundary c = grind (arith, label_between)
