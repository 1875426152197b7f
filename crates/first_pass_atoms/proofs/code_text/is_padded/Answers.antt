use Rattle.std.proofs.Common.{arith}
use Rattle.first_pass_atoms.proofs.CodeFacts.{padded_size}
use Rattle.first_pass_atoms.proofs.code_text.is_padded.Goals as goal

pub returns-then-ends_space-clause-two : goal.returns-then-ends_space-clause-two
returns-then-ends_space-clause-two c = grind (arith, padded_size)
