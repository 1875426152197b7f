use Rattle.first_pass_command.proofs.Fronts.{leaves_both}
use Rattle.std.proofs.Common.{rules}
use Rattle.first_pass_command.proofs.run.run_text.Goals as goal

pub returns-clause-front : goal.returns-clause-front
returns-clause-front g c = leaves_both _ _ _ _ _ _ _ _ (search rules) c.write_named.ensures.fault
