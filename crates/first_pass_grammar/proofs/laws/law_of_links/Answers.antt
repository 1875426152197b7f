use Rattle.first_pass_grammar.proofs.LinkTables.FirstLinks.{first_under, order_of_links}
use Rattle.first_pass_grammar.proofs.laws.law_of_links.Goals as goal

pub returns-clause-first : goal.returns-clause-first
returns-clause-first c = λ folding definitions. first_under folding definitions

pub returns-clause-order : goal.returns-clause-order
returns-clause-order c = λ definitions. order_of_links definitions
