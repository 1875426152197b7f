use Rattle.std.proofs.Common.{◌≡◌, false, rules}
use Rattle.std.proofs.lemmas.Result.{IfOk-weaker}
use Rattle.clap.specs.Words.{rule_of}
use Rattle.first_pass_program.proofs.Apps.{adds_rule}
use Rattle.first_pass_program.specs.Apps.{file_rule}
use Rattle.first_pass_program.proofs.words.command.view.Goals as goal

pub returns : goal.returns
returns c =
    let file_is : rule_of c.help-file.result ≡ file_rule = search rules in
    let local : c.help-file.result.global ≡ false = search rules in
    IfOk-weaker c.arg.result _ _ (λ r adds. adds_rule _ r _ _ file_rule (c.in_ok-with_options.ensures _ c.named.ensures) adds local file_is) c.arg.ensures
