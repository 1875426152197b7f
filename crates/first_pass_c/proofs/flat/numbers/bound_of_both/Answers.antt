use Rattle.std.proofs.lemmas.Nat.{le_or_l, le_or_r}
use Rattle.first_pass_c.proofs.flat.numbers.bound_of_both.Goals as goal

pub returns-clause-one : goal.returns-clause-one
returns-clause-one c = le_or_l c.args.one c.args.other

pub returns-clause-other : goal.returns-clause-other
returns-clause-other c = le_or_r c.args.one c.args.other
