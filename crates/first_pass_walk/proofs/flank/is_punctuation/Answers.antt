use Rattle.std.proofs.Common.{sym, ◌∙◌, arith}
use Rattle.first_pass_walk.proofs.Common.{nat_tests}
use Rattle.first_pass_walk.proofs.AsciiFacts.{punctuation_in_ascii}
use Rattle.first_pass_walk.proofs.flank.is_punctuation.Goals as goal

pub returns-then-is_ascii : goal.returns-then-is_ascii
returns-then-is_ascii c = record {
  value = c.is_ascii_punctuation.ensures.value
      ∙ sym (punctuation_in_ascii c.args.c (grind (arith, nat_tests, c.if-is_ascii.true, c.is_ascii.ensures)));
}
