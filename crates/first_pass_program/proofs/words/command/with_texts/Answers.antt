use Rattle.std.proofs.Common.{◌≡◌, false, rules}
use Rattle.std.proofs.lemmas.Result.{IfOk-weaker}
use Rattle.clap.specs.Words.{rule_of}
use Rattle.first_pass_program.proofs.Apps.{adds_rule}
use Rattle.std.proofs.Common.{codes}
use Rattle.first_pass_program.specs.Apps.{files_rule, value_rule}
use Rattle.first_pass_program.proofs.words.command.with_texts.Goals as goal

pub returns : goal.returns
returns c =
    let list_is : rule_of c.help-list.result ≡ value_rule (codes "files-from") = search rules in
    let files_are : rule_of c.help-files.result ≡ files_rule = search rules in
    let list_local : c.help-list.result.global ≡ false = search rules in
    let files_local : c.help-files.result.global ≡ false = search rules in
    IfOk-weaker c.arg-2.result _ _ (λ r adds app is. adds_rule _ r _ _ files_rule
    (adds_rule _ _ _ _ (value_rule (codes "files-from")) (c.in_ok-with_options.ensures app is) c.in_ok-arg.ensures list_local list_is)
    adds files_local files_are)
    c.arg-2.ensures
