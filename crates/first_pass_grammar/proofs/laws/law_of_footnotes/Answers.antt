use Rattle.first_pass_grammar.proofs.LinkTables.FirstLinks.{first_label, order_of_labels}
use Rattle.first_pass_grammar.proofs.laws.law_of_footnotes.Goals as goal

pub returns-clause-first : goal.returns-clause-first
returns-clause-first c = λ folding labels. first_label folding labels

pub returns-clause-order : goal.returns-clause-order
returns-clause-order c = λ labels. order_of_labels labels
