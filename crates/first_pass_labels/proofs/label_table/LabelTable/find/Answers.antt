use Rattle.std.proofs.Common.{ap, sym, ◌∙◌}
use Rattle.first_pass_labels.specs.Foldings.{folding_of, label_cmp}
use Rattle.std.specs.BTreeMap.{is_at}
use Rattle.std.specs.Map.{lookup}
use Rattle.first_pass_labels.specs.LabelTables.{defined_under, table_of}
use Rattle.first_pass_labels.proofs.TableLemmas.{found_by_order}
use Rattle.first_pass_labels.proofs.TextOrder.{under_table}
use Rattle.first_pass_labels.proofs.label_table.LabelTable.find.Goals as goal

pub returns-then-is_empty : goal.returns-then-is_empty
returns-then-is_empty g c =
    let f = folding_of c.args.key.now in
    let es = c.self.inside.entries.items in
    c.find_first.ensures ∙ ap (lookup (is_at (label_cmp c.args.key.now))) c.as_slice.ensures.value
    ∙ sym (found_by_order c.args.key.now es) ∙ sym (under_table f es) ∙ ap (defined_under f) c.self.view_is

pub returns : goal.returns
returns g c =
    let f = folding_of c.args.key.now in
    let es = c.self.inside.entries.items in
    c.find_sorted.ensures ∙ ap (λ l. lookup (is_at (label_cmp c.args.key.now)) (table_of l)) c.as_slice-2.ensures.value
    ∙ sym (found_by_order c.args.key.now (table_of es)) ∙ ap (defined_under f) c.self.view_is
