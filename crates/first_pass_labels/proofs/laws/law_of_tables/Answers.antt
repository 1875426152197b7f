use Rattle.std.proofs.Common.{[]}
use Rattle.first_pass_labels.proofs.TextOrder.{under_table, in_order_table, with_one_more}
use Rattle.first_pass_labels.proofs.laws.law_of_tables.Goals as goal

pub returns-clause-first : goal.returns-clause-first
returns-clause-first g c = λ folding definitions. under_table folding definitions

pub returns-clause-order : goal.returns-clause-order
returns-clause-order g c = λ definitions. in_order_table definitions

pub returns-clause-more : goal.returns-clause-more
returns-clause-more g c = λ definitions label x. with_one_more [] definitions label x
