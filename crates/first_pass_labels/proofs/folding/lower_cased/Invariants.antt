use Rattle.std.proofs.Common.{◌≡◌, map, take, length}
use Rattle.std.specs.Char.{to_ascii_lowercase}
use Rattle.first_pass_labels.proofs.folding.lower_cased.Given as goal

abbrev pub invariant-loop-at : goal.invariant-loop-at
invariant-loop-at l = record {
  long : length l.bytes ≡ 22;
  lower : take l.at l.bytes ≡ map to_ascii_lowercase (take l.at l.spelled);
}
