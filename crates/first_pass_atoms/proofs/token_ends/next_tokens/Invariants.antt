use Rattle.std.proofs.Common.{◌≡◌, ◌≤◌, length}
use Rattle.first_pass_atoms.specs.NextTokens.{KeysBelow, IsLastFrom, IsNextFrom}
use Rattle.first_pass_atoms.proofs.token_ends.next_tokens.Given as goal

-- the tables are right from here on
abbrev pub invariant-loop-at : goal.invariant-loop-at
invariant-loop-at l = record {
  within : l.at ≤ length l.tokens;
  keys : KeysBelow l.mark l.tokens (length l.last.items);
  last : IsLastFrom l.mark l.tokens l.at l.last.items;
  size : length l.next.items ≡ length l.tokens;
  next : IsNextFrom l.mark l.tokens l.at l.next.items;
}

abbrev pub decreases-loop-at : goal.decreases-loop-at
decreases-loop-at l = l.at
