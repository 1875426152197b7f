use Rattle.std.proofs.Common.{rules}
use Rattle.first_pass_command.proofs.Fronts.{tells_fault, tells_nothing}
use Rattle.first_pass_command.proofs.run.tell.Goals as goal

pub returns-then-ends_run : goal.returns-then-ends_run
returns-then-ends_run g c = tells_nothing c.args.name.now c.args.fault.now _ _ (search rules)

pub returns : goal.returns
returns g c = tells_fault _ _ _ _ c.tell.ensures
