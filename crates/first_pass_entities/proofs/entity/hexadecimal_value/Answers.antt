use Rattle.std.proofs.Common.{◌+◌, ◌*◌, ◌∙◌, sym, ap, arith, drop}
use Rattle.std.proofs.lemmas.Nat.{pow_below}
use Rattle.std.proofs.lemmas.List.{at_drop_more}
use Rattle.std.specs.Str.Parse.{digits_value_after}
use Rattle.first_pass_entities.proofs.Numbers.{six_bits}
use Rattle.first_pass_entities.proofs.entity.hexadecimal_value.Goals as goal

pub overflow_mul-value : goal.overflow_mul-value
overflow_mul-value c = let b = pow_below (6 * c.loop-digit.digit-index) 42 (omega arith) in omega arith

pub overflow_add-value : goal.overflow_add-value
overflow_add-value c = let b = pow_below (6 * c.loop-digit.digit-index) 42 (omega arith) in omega arith

pub loop-digit-preserved : goal.loop-digit-preserved
loop-digit-preserved c =
    let i = c.loop-digit.digit-index in
    let more = at_drop_more (digits_value_after 16 c.loop-digit.value) c.args.digits.now i 0 (omega arith) in
    let small = six_bits c.loop-digit.value c.digit_value.result i c.loop-digit.invariant.small c.digit_value.ensures.small in
    record {
      value = ap (λ d. digits_value_after 16 (c.loop-digit.value * 16 + d) (drop (i + 1) c.args.digits.now)) c.digit_value.ensures.value ∙ sym more
          ∙ c.loop-digit.invariant.value;
      small = omega arith;
    }
