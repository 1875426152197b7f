use Rattle.std.proofs.Common.{arith}
use Rattle.first_pass_places.proofs.WordPlaces.{places_between}
use Rattle.first_pass_places.proofs.attributes.attribute_ranges.Goals as goal

pub returns-clause-value : goal.returns-clause-value
returns-clause-value c = grind arith

pub returns-clause-boundary : goal.returns-clause-boundary
returns-clause-boundary c = grind (arith, places_between)
