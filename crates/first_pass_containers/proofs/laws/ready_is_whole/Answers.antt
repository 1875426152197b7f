use Rattle.first_pass_containers.proofs.ReadyStates.{ready_whole}
use Rattle.first_pass_containers.proofs.laws.ready_is_whole.Goals as goal

pub returns : goal.returns
returns c = ready_whole
