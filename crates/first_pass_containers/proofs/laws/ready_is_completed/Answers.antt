use Rattle.first_pass_containers.proofs.ReadyStates.{ready_completed}
use Rattle.first_pass_containers.proofs.laws.ready_is_completed.Goals as goal

pub returns : goal.returns
returns c = ready_completed
