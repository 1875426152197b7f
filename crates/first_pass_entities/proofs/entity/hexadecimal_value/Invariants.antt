use Rattle.std.proofs.Common.{◌≡◌, ◌*◌, ◌<◌, ◌^◌, drop}
use Rattle.std.specs.Str.Parse.{digits_value, digits_value_after}
use Rattle.first_pass_entities.proofs.entity.hexadecimal_value.Given as goal

-- the remaining digits, after the value so far, give the whole number; each adds at most six bits
abbrev pub invariant-loop-digit : goal.invariant-loop-digit
invariant-loop-digit l = record {
  value : digits_value_after 16 l.value (drop l.digit-index l.digits) ≡ digits_value 16 l.digits;
  small : l.value < 2 ^ (6 * l.digit-index);
}
