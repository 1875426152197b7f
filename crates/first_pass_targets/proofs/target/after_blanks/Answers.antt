use Rattle.std.proofs.Common.{arith}
use Rattle.first_pass_targets.proofs.PartFacts.{blank_boundary}
use Rattle.first_pass_targets.proofs.target.after_blanks.Goals as goal

pub returns-clause-boundary : goal.returns-clause-boundary
returns-clause-boundary c = grind (arith, blank_boundary)
