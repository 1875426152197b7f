use Rattle.std.proofs.Common.{◌∙◌, sym, ap, Some, arith, rules}
use Rattle.std.proofs.lemmas.Iterator.Consumers.{YieldsList-end, YieldsList-turn}
use Rattle.std.proofs.lemmas.Iterator.Splits.{YieldsList-from_str_split}
use Rattle.first_pass_program.proofs.OptionLemmas.{fault_of}
use Rattle.first_pass_program.specs.OptionNames.{bits_with}
use Rattle.first_pass_program.proofs.words.option_names.add_options.Goals as goal

-- a word of the list has the fault
pub returns-in_err-options_of-clause-fault : goal.returns-in_err-options_of-clause-fault
returns-in_err-options_of-clause-fault c =
    let turn = YieldsList-turn (YieldsList-from_str_split 44 c.args.list.now (omega arith) (cc) (cc) (cc)) c.loop-word.yielded _ c.loop-word.yielded_by _ _
    c.in-Some.word c.in-Some.is c.next.ensures.steps in
    let fault = fault_of c.args.list.now c.in-Some.word.now _ c.in_err-options_of.field-0.0 turn c.in_err-options_of.ensures.fault in
    search rules

-- the words are those of the list
pub returns-clause-ok : goal.returns-clause-ok
returns-clause-ok c =
    let all = YieldsList-end (YieldsList-from_str_split 44 c.args.list.now (omega arith) (cc) (cc) (cc)) c.loop-word.yielded _ c.loop-word.yielded_by _ _
    c.in-None.is c.next.ensures.steps in
    ap (bits_with (Some c.args.options.0)) (sym all.0) ∙ c.loop-word.invariant
