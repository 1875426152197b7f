use Rattle.first_pass_c.proofs.FlatRead.{nodes_determined, tables_determined}
use Rattle.first_pass_c.proofs.flat.laws.flat_form_determines.Goals as goal

pub returns-clause-nodes : goal.returns-clause-nodes
returns-clause-nodes c = nodes_determined

pub returns-clause-tables : goal.returns-clause-tables
returns-clause-tables c = tables_determined
