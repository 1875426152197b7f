use Rattle.first_pass_atoms.specs.NextTokens.{KeysIn}
use Rattle.first_pass_atoms.proofs.token_ends.greatest_key.Given as goal

-- the number is the greatest of the tokens so far
abbrev pub invariant-loop-at : goal.invariant-loop-at
invariant-loop-at l = KeysIn l.mark l.tokens l.at l.most
