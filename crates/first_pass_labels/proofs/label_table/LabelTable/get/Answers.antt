use Rattle.std.proofs.Common.{ap, ◌∙◌}
use Rattle.first_pass_labels.specs.Foldings.{folded}
use Rattle.first_pass_labels.specs.LabelTables.{defined_under}
use Rattle.first_pass_labels.proofs.TableLemmas.{found_holds}
use Rattle.first_pass_labels.proofs.label_table.LabelTable.get.Goals as goal

pub returns-clause-value : goal.returns-clause-value
returns-clause-value g c = c.find.ensures ∙ ap (λ t. defined_under (folded t) c.args.self.now) c.in_ok-key.ensures

pub returns-clause-holds : goal.returns-clause-holds
returns-clause-holds g c =
    found_holds _ _ _ (c.find.ensures ∙ ap (λ t. defined_under (folded t) c.args.self.now) c.in_ok-key.ensures)
