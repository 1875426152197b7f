use Rattle.std.proofs.Common.{arith}
use Rattle.first_pass_places.proofs.RangeBoundaries.{name_between}
use Rattle.first_pass_places.proofs.name.name_range.Goals as goal

pub returns-clause-boundary : goal.returns-clause-boundary
returns-clause-boundary c = grind (arith, name_between)
