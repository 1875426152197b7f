use Rattle.first_pass.proofs.BetweenCalls.{block_ended}
use Rattle.first_pass.proofs.laws.ended_block_is_closable.Goals as goal

pub returns : goal.returns
returns c = λ options text r at last x forest read current here plain low. block_ended options text r at last x forest read current here plain low
