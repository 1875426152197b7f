use Rattle.std.proofs.Common.{◌≡◌, false, rules}
use Rattle.std.proofs.lemmas.Result.{IfOk-weaker}
use Rattle.clap.specs.Words.{rule_of}
use Rattle.first_pass_program.proofs.Apps.{adds_rule}
use Rattle.std.proofs.Common.{codes}
use Rattle.first_pass_program.specs.Apps.{value_rule}
use Rattle.first_pass_program.proofs.words.command.bench.Goals as goal

pub returns : goal.returns
returns c =
    let runs_are : rule_of c.help-runs.result ≡ value_rule (codes "runs") = search rules in
    let local : c.help-runs.result.global ≡ false = search rules in
    IfOk-weaker c.with_texts.result _ _ (λ r adds. adds _ (adds_rule _ _ _ _ _ c.named.ensures c.in_ok-arg.ensures local runs_are)) c.with_texts.ensures
