use Rattle.std.proofs.Common.{[], ap, subst, ◌∙◌}
use Rattle.first_pass_labels.specs.LabelTables.{table_of, with_first, IsInOrder}
use Rattle.first_pass_labels.proofs.TextOrder.{in_order_table, with_one_more}
use Rattle.first_pass_labels.proofs.label_table.LabelTable.insert_first.Goals as goal

pub returns-in_err-push-clause-order : goal.returns-in_err-push-clause-order
returns-in_err-push-clause-order g c = subst IsInOrder c.self.view_is (in_order_table c.self.inside.entries.items)

pub returns-clause-first : goal.returns-clause-first
returns-clause-first g c =
    ap table_of c.in_ok-push.ensures.items ∙ with_one_more [] c.self.inside.entries.items c.args.label c.args.definition
    ∙ ap (λ t. with_first t c.args.label c.args.definition) c.self.view_is

pub returns-clause-order : goal.returns-clause-order
returns-clause-order g c = subst IsInOrder c.self.view_is (in_order_table c.self.inside.entries.items)
