use Rattle.std.proofs.Common.{ℕ, List, map, ap, ◌∙◌, sym, rules, of_calls, flat_map}
use Rattle.first_pass_host.proofs.HeldLines.{written_as, first_failed, then_written}
use Rattle.first_pass_host.proofs.ItemLines.{entry_lines}
use Rattle.first_pass_grammar.specs.LinkTables.{LinkEntry}
use Rattle.first_pass_names.specs.TableEntries.{link_entry, footnote_label}
use Rattle.first_pass_json.specs.JsonLines.{definition_line, footnote_line, range_members}
use Rattle.first_pass_json.specs.Scripts.{in_script}
use Rattle.first_pass_json.proofs.Scripts.{in_script-joined, in_script-lines}
use Rattle.first_pass_json.proofs.script_lines.write_script_tables.Goals as goal

pub returns-in_err-write_each : goal.returns-in_err-write_each
returns-in_err-write_each g c =
    let line = λ (l : LinkEntry). in_script (definition_line range_members l) in
    let links = c.in_err-write_each.ensures _ _ (entry_lines _ line link_entry (λ old new x call. search of_calls)) in
    let links_are = ap (λ l. flat_map line (map link_entry l)) (c.iter.ensures.entries ∙ c.refdefs.ensures) in
    written_as _ _ _ _ (in_script-lines (definition_line range_members) _ _) (first_failed _ _ _ _ _ _ (search rules) (written_as _ _ _ _ links_are links))

pub returns : goal.returns
returns g c =
    let line = λ (l : LinkEntry). in_script (definition_line range_members l) in
    let links = c.in_ok-write_each.ensures _ _ (entry_lines _ line link_entry (λ old new x call. search of_calls)) in
    let links_are = ap (λ l. flat_map line (map link_entry l)) (c.iter.ensures.entries ∙ c.refdefs.ensures) in
    let label = λ (l : List ℕ). in_script (footnote_line l) in
    let labels = c.write_each-2.ensures _ _ (entry_lines _ label footnote_label (λ old new x call. search of_calls)) in
    let labels_are = ap (λ l. flat_map label (map footnote_label l)) (c.iter-2.ensures.entries ∙ c.footdefs.ensures) ∙ sym (in_script-joined footnote_line _) in
    written_as _ _ _ _ (in_script-lines (definition_line range_members) _ _)
    (then_written _ _ _ _ _ _ (written_as _ _ _ _ links_are links) (written_as _ _ _ _ labels_are labels))
