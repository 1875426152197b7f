use Rattle.first_pass_content.proofs.Growth.{no_content}
use Rattle.first_pass_content.proofs.builder.begin_content.Goals as goal

pub returns-clause-value : goal.returns-clause-value
returns-clause-value c = λ text. no_content text _ _ _ c.new-2.ensures.items c.empty_run.ensures
