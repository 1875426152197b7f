use Rattle.first_pass_exists.proofs.Completed.{completion_found}
use Rattle.first_pass_exists.proofs.laws.always_a_completion.Goals as goal

pub returns : goal.returns
returns c = completion_found
