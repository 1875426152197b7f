use Rattle.std.proofs.Common.{arith}
use Rattle.first_pass_places.proofs.RangeBoundaries.{attributes_between}
use Rattle.first_pass_places.proofs.attribute_block.attribute_block_range.Goals as goal

pub returns-clause-boundary : goal.returns-clause-boundary
returns-clause-boundary c = grind (arith, attributes_between)
