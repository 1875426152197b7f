use Rattle.std.proofs.lemmas.Result.{IfOk-weaker}
use Rattle.first_pass_program.proofs.Apps.{adds_rule}
use Rattle.first_pass_program.proofs.words.command.with_json.Goals as goal

pub returns : goal.returns
returns c =
    IfOk-weaker c.with_texts.result _ _ (λ r adds name is.
    adds _ (adds_rule _ _ _ _ _ is c.in_ok-arg.ensures c.flag-json.ensures.local c.flag-json.ensures.rule))
    c.with_texts.ensures
