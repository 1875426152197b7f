use Rattle.std.proofs.Common.{map, ap, refl, drop, ◌∙◌, rules, of_calls, flat_map}
use Rattle.first_pass_host.proofs.HeldLines.{written_as, first_failed, then_written}
use Rattle.first_pass_host.proofs.ItemLines.{entry_lines}
use Rattle.first_pass_names.specs.TableEntries.{link_entry}
use Rattle.first_pass_reports.proofs.NodeLines.{all_lines, line_from, number_lines}
use Rattle.first_pass_linked.specs.LinkLines.{source_of}
use Rattle.first_pass_linked.proofs.BlockLines.{added, first_lines, lines_are}
use Rattle.first_pass_linked.proofs.report.write_lines.Goals as goal

pub returns-in_err-write_each : goal.returns-in_err-write_each
returns-in_err-write_each g c = λ found are.
    let definition = (g.F.LineForm.forms c.args.form.now).definition in
    let links = c.in_err-write_each.ensures _ _ (entry_lines _ definition link_entry (λ old new x call. search of_calls)) in
    let links_are = ap (λ l. flat_map definition (map link_entry l)) (c.iter.ensures.entries ∙ c.refdefs.ensures) in
    first_failed _ _ _ _ _ _ (search rules) (written_as _ _ _ _ links_are links)

pub returns : goal.returns
returns g c = λ found are.
    let definition = (g.F.LineForm.forms c.args.form.now).definition in
    let links = c.in_ok-write_each.ensures _ _ (entry_lines _ definition link_entry (λ old new x call. search of_calls)) in
    let links_are = ap (λ l. flat_map definition (map link_entry l)) (c.iter.ensures.entries ∙ c.refdefs.ensures) in
    let s = source_of (g.F.LineForm.forms c.args.form.now) c.args.source.now in
    let all = c.args.nodes.now in
    let nodes = c.write_each-2.ensures _ _ (number_lines _ (line_from (first_lines s) all) (λ old new x call. added s (drop x all) _ _ (search of_calls))) in
    then_written _ _ _ _ _ _ (written_as _ _ _ _ links_are links)
    (written_as _ _ _ _ (all_lines (first_lines s) all all refl ∙ lines_are s all found are) nodes)
