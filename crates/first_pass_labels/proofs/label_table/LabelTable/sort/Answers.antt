use Rattle.std.proofs.Common.{◌<◌, arith, length, subst}
use Rattle.first_pass_items.proofs.ResultFacts.{on_err}
use Rattle.first_pass_labels.proofs.SortedLemmas.{table_some}
use Rattle.first_pass_labels.proofs.label_table.LabelTable.sort.Goals as goal

pub returns-in_err-order-clause-err : goal.returns-in_err-order-clause-err
returns-in_err-order-clause-err g c =
    let v = c.self.inside.entries in
    on_err c.from_residual.result
    (subst (λ l. 0 < length l) c.self.view_is (table_some v.items (omega (arith, c.if-len-gt0.true, c.len.ensures, v.ok.0))))
