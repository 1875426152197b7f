use Rattle.std.proofs.lemmas.Result.{IfOk-weaker}
use Rattle.first_pass_program.proofs.words.command.blocks.Goals as goal

pub returns : goal.returns
returns c = IfOk-weaker c.with_texts.result _ _ (λ r adds. adds _ c.named.ensures) c.with_texts.ensures
