use Rattle.std.proofs.Common.{ap}
use Rattle.first_pass_labels.specs.LabelTables.{table_of, with_all}
use Rattle.first_pass_labels.proofs.label_table.LabelTable.new.Goals as goal

pub returns : goal.returns
unfolding with_all
returns g c = ap table_of c.new.ensures.items
