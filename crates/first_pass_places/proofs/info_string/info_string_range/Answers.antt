use Rattle.std.proofs.Common.{arith}
use Rattle.first_pass_places.proofs.RangeBoundaries.{info_between}
use Rattle.first_pass_places.proofs.info_string.info_string_range.Goals as goal

pub returns-clause-boundary : goal.returns-clause-boundary
returns-clause-boundary c = grind (arith, info_between)
