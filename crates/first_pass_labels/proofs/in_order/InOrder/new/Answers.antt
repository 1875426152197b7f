use Rattle.std.proofs.Common.{ap, subst, sym}
use Rattle.first_pass_labels.specs.LabelTables.{table_of, IsOrderOf}
use Rattle.first_pass_labels.proofs.SortedLemmas.{after_none}
use Rattle.first_pass_labels.proofs.in_order.InOrder.new.Goals as goal

pub invariant_of-result : goal.invariant_of-result
invariant_of-result g c = λ some.
    subst (λ l. IsOrderOf c.args.order.now c.args.entries.now (table_of l)) (sym (after_none c.args.entries.now)) (c.requires some)

pub returns : goal.returns
returns g c = ap table_of (after_none c.args.entries.now)
