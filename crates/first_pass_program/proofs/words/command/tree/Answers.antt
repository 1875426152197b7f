use Rattle.std.proofs.lemmas.Result.{IfOk-weaker}
use Rattle.first_pass_program.proofs.Apps.{adds_rule}
use Rattle.first_pass_program.proofs.words.command.tree.Goals as goal

pub returns : goal.returns
returns c =
    IfOk-weaker c.with_texts.result _ _ (λ r adds. adds _ (adds_rule _ _ _ _ _
    (adds_rule _ _ _ _ _ c.named.ensures c.in_ok-arg.ensures c.flag.ensures.local c.flag.ensures.rule)
    c.in_ok-tree.ensures c.flag-2.ensures.local c.flag-2.ensures.rule)) c.with_texts.ensures
