use Rattle.bitflags.proofs.OnLiterals.{bitflags_on_literals}
use Rattle.std.proofs.Common.{rules}
use Rattle.first_pass_program.proofs.OptionLemmas.{value_read, value_unread}
use Rattle.first_pass_program.proofs.words.option_names.options_of_value.Goals as goal

pub returns-in-Ok : goal.returns-in-Ok
unfolding bitflags_on_literals
returns-in-Ok c some digits =
    let from = c.from_bits.ensures in
    value_read c.args.word.now c.in-Ok.bits c.from_bits.result digits (search rules) c.in-Ok.ensures.value.0 (from.value tt) (from.known tt)

pub returns-in-Err : goal.returns-in-Err
returns-in-Err c some digits = value_unread c.args.word.now some digits (search rules) c.in-Err.ensures.value.0
