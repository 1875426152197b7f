use Rattle.std.proofs.Common.{ap, ◌∙◌, rules, of_calls, flat_map}
use Rattle.first_pass_host.proofs.HeldLines.{written_as, first_failed, then_written}
use Rattle.first_pass_host.proofs.ItemLines.{element_lines}
use Rattle.first_pass_names.specs.TableEntries.{names_of}
use Rattle.first_pass_json.specs.JsonLines.{node_line, range_members}
use Rattle.first_pass_json.specs.Scripts.{in_script}
use Rattle.first_pass_json.proofs.Scripts.{in_script-lines}
use Rattle.first_pass_json.proofs.script_lines.write_script_lines.Goals as goal

pub returns-in_err-write_each : goal.returns-in_err-write_each
returns-in_err-write_each g c =
    let line = node_line range_members (names_of c.args.parsed.now.allocs) in
    let nodes = c.in_err-write_each.ensures _ _ (element_lines _ (λ n. in_script (line n)) (λ old new x call. search of_calls)) in
    let nodes_are = ap (flat_map (λ n. in_script (line n))) (c.iter.ensures.rest ∙ c.nodes.ensures) in
    written_as _ _ _ _ (in_script-lines line _ _) (first_failed _ _ _ _ _ _ (search rules) (written_as _ _ _ _ nodes_are nodes))

pub returns : goal.returns
returns g c =
    let line = node_line range_members (names_of c.args.parsed.now.allocs) in
    let nodes = c.in_ok-write_each.ensures _ _ (element_lines _ (λ n. in_script (line n)) (λ old new x call. search of_calls)) in
    let nodes_are = ap (flat_map (λ n. in_script (line n))) (c.iter.ensures.rest ∙ c.nodes.ensures) in
    written_as _ _ _ _ (in_script-lines line _ _) (then_written _ _ _ _ _ _ (written_as _ _ _ _ nodes_are nodes) c.write_script_tables.ensures)
