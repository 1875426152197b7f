use Rattle.std.proofs.Common.{◌≡◌, false, rules}
use Rattle.std.proofs.lemmas.Result.{IfOk-weaker}
use Rattle.clap.specs.Words.{rule_of}
use Rattle.first_pass_program.proofs.Apps.{adds_rule}
use Rattle.first_pass_program.specs.Apps.{options_rule}
use Rattle.first_pass_program.proofs.words.command.with_options.Goals as goal

pub returns : goal.returns
returns c =
    let options_are : rule_of c.help-options.result ≡ options_rule = search rules in
    let local : c.help-options.result.global ≡ false = search rules in
    IfOk-weaker c.arg-2.result _ _ (λ r adds app is. adds_rule _ r _ _ _ (adds_rule _ _ _ app options_rule is c.in_ok-arg.ensures local options_are)
    adds c.flag.ensures.local c.flag.ensures.rule) c.arg-2.ensures
