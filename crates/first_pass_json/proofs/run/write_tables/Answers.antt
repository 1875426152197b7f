use Rattle.std.proofs.Common.{map, ap, ◌∙◌, rules, of_calls, flat_map}
use Rattle.first_pass_host.proofs.HeldLines.{written_as, first_failed, then_written}
use Rattle.first_pass_host.proofs.ItemLines.{entry_lines}
use Rattle.first_pass_names.specs.TableEntries.{link_entry, footnote_label}
use Rattle.first_pass_json.specs.JsonLines.{definition_line, footnote_line}
use Rattle.first_pass_json.proofs.run.write_tables.Goals as goal

pub returns-in_err-write_each : goal.returns-in_err-write_each
returns-in_err-write_each g c =
    let line = definition_line (g.R.RangeForm.members c.args.form.now) in
    let links = c.in_err-write_each.ensures _ _ (entry_lines _ line link_entry (λ old new x call. search of_calls)) in
    let links_are = ap (λ l. flat_map line (map link_entry l)) (c.iter.ensures.entries ∙ c.refdefs.ensures) in
    first_failed _ _ _ _ _ _ (search rules) (written_as _ _ _ _ links_are links)

pub returns : goal.returns
returns g c =
    let line = definition_line (g.R.RangeForm.members c.args.form.now) in
    let links = c.in_ok-write_each.ensures _ _ (entry_lines _ line link_entry (λ old new x call. search of_calls)) in
    let links_are = ap (λ l. flat_map line (map link_entry l)) (c.iter.ensures.entries ∙ c.refdefs.ensures) in
    let labels = c.write_each-2.ensures _ _ (entry_lines _ footnote_line footnote_label (λ old new x call. search of_calls)) in
    let labels_are = ap (λ l. flat_map footnote_line (map footnote_label l)) (c.iter-2.ensures.entries ∙ c.footdefs.ensures) in
    then_written _ _ _ _ _ _ (written_as _ _ _ _ links_are links) (written_as _ _ _ _ labels_are labels)
