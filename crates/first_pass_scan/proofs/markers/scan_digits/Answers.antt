use Rattle.first_pass_scan.proofs.MarkerFacts.{ten_digits}
use Rattle.first_pass_scan.proofs.markers.scan_digits.Goals as goal

pub returns-clause-value : goal.returns-clause-value
returns-clause-value c = ten_digits c.args.bytes.now c.min.result c.digit_run.result c.min.ensures c.digit_run.ensures.value
