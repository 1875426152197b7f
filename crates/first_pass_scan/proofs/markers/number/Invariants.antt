use Rattle.std.proofs.Common.{◌≡◌, ◌<◌, ◌^◌, drop}
use Rattle.first_pass_scan.specs.Markers.{number_from}
use Rattle.first_pass_scan.proofs.markers.number.Given as goal

abbrev pub invariant-loop-b : goal.invariant-loop-b
invariant-loop-b l = record {
  same : number_from l.value (drop l.b-index l.digits) ≡ number_from 0 l.digits;
  small : l.value < 10 ^ l.b-index;
}
