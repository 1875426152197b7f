use Rattle.first_pass_grammar.proofs.Uniqueness.Unique.{one_forest}
use Rattle.first_pass_grammar.proofs.laws.one_derivation.Goals as goal

pub returns-clause-forest : goal.returns-clause-forest
returns-clause-forest c = λ text options m n f g t u x y. (one_forest text options m n f g t u x y).0

pub returns-clause-tables : goal.returns-clause-tables
returns-clause-tables c = λ text options m n f g t u x y. (one_forest text options m n f g t u x y).1
