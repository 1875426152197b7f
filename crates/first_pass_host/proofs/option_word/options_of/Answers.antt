use Rattle.std.proofs.Common.{sym, ◌∙◌}
use Rattle.bitflags.proofs.OnLiterals.{bitflags_on_literals}
use Rattle.first_pass_host.proofs.WordLemmas.{taken, untaken}
use Rattle.first_pass_host.proofs.option_word.options_of.Goals as goal

pub returns-in-Ok-clause-some : goal.returns-in-Ok-clause-some
unfolding bitflags_on_literals
returns-in-Ok-clause-some c =
    let ((numeral, small), value) = c.in-Ok.ensures.value.0 in
    let known = c.from_bits.ensures in
    taken c.args.word.now c.in-Ok.bits c.from_bits.result (sym c.begins_with_plus.ensures ∙ c.if-begins_with_plus.false) numeral value (known.value tt)
    (known.known tt)

pub returns-in-Ok-clause-none : goal.returns-in-Ok-clause-none
unfolding bitflags_on_literals
returns-in-Ok-clause-none c =
    let ((numeral, small), value) = c.in-Ok.ensures.value.0 in
    let known = c.from_bits.ensures in
    untaken c.args.word.now c.in-Ok.bits c.from_bits.result (sym c.begins_with_plus.ensures ∙ c.if-begins_with_plus.false) numeral value (known.known tt)
