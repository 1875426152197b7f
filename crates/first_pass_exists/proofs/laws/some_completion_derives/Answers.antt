use Rattle.first_pass_exists.proofs.Completed.{completion_derives}
use Rattle.first_pass_exists.proofs.laws.some_completion_derives.Goals as goal

pub returns : goal.returns
returns c = completion_derives
