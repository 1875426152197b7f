use Rattle.std.proofs.Common.{arith}
use Rattle.first_pass_scan.proofs.MarkerFacts.{digits-at}
use Rattle.first_pass_scan.proofs.markers.scan_ordered.Goals as goal

pub number-requires-clause-digits : goal.number-requires-clause-digits
number-requires-clause-digits c = digits-at c.args.bytes.now _ (omega arith) c.scan_digits-digits.ensures.within
