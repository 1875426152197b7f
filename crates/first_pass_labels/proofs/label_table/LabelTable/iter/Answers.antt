use Rattle.std.proofs.Common.{ap, arith, length, subst}
use Rattle.std.proofs.iter.runs.Sources.{from_front}
use Rattle.std.specs.Map.Iter.{TakesFirst, deref_pair}
use Rattle.first_pass_labels.specs.LabelTables.{IsInOrder}
use Rattle.first_pass_labels.proofs.SortedLemmas.{table_long}
use Rattle.first_pass_labels.proofs.TextOrder.{in_order_table}
use Rattle.first_pass_labels.proofs.label_table.LabelTable.iter.Goals as goal

pub returns-clause-order : goal.returns-clause-order
returns-clause-order g c = subst IsInOrder c.self.view_is (in_order_table c.self.inside.entries.items)

pub returns-clause-fits : goal.returns-clause-fits
returns-clause-fits g c =
    let v = c.self.inside.entries in
    omega (arith, table_long v.items, ap length c.self.view_is, v.ok.0, v.ok.1, v.small)

pub returns-clause-runs : goal.returns-clause-runs
returns-clause-runs g c = from_front (TakesFirst deref_pair) deref_pair (λ s. s) (λ s t h. ap length h.0) (λ s x t h. h)
