use Rattle.std.proofs.Common.{map, ap, ◌∙◌, rules, of_calls, flat_map}
use Rattle.first_pass_host.proofs.HeldLines.{written_as, first_failed, then_written}
use Rattle.first_pass_host.proofs.ItemLines.{element_lines, entry_lines}
use Rattle.first_pass_names.specs.TableEntries.{names_of, link_entry}
use Rattle.first_pass_reports.specs.Printed.{node_line, link_line}
use Rattle.first_pass_reports.proofs.printed.run.PrintedBlocksTreeLines.write_lines.Goals as goal

pub returns-in_err-write_each : goal.returns-in_err-write_each
returns-in_err-write_each g c =
    let line = node_line (names_of c.args.parsed.now.allocs) in
    let nodes = c.in_err-write_each.ensures _ _ (element_lines _ line (λ old new x call. search of_calls)) in
    first_failed _ _ _ _ _ _ (search rules) (written_as _ _ _ _ (ap (flat_map line) (c.iter.ensures.rest ∙ c.nodes.ensures)) nodes)

pub returns : goal.returns
returns g c =
    let line = node_line (names_of c.args.parsed.now.allocs) in
    let nodes = c.in_ok-write_each.ensures _ _ (element_lines _ line (λ old new x call. search of_calls)) in
    let links = c.write_each-2.ensures _ _ (entry_lines _ link_line link_entry (λ old new x call. search of_calls)) in
    let links_are = ap (λ l. flat_map link_line (map link_entry l)) (c.iter-2.ensures.entries ∙ c.refdefs.ensures) in
    then_written _ _ _ _ _ _ (written_as _ _ _ _ (ap (flat_map line) (c.iter.ensures.rest ∙ c.nodes.ensures)) nodes) (written_as _ _ _ _ links_are links)
