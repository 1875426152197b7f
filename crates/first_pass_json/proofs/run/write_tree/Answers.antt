use Rattle.std.proofs.Common.{ap, ◌∙◌, rules, of_calls, flat_map}
use Rattle.first_pass_host.proofs.HeldLines.{written_as, first_failed, then_written}
use Rattle.first_pass_host.proofs.ItemLines.{element_lines}
use Rattle.first_pass_names.specs.TableEntries.{names_of}
use Rattle.first_pass_json.specs.JsonLines.{node_line}
use Rattle.first_pass_json.proofs.run.write_tree.Goals as goal

pub returns-in_err-write_each : goal.returns-in_err-write_each
returns-in_err-write_each g c =
    let line = node_line (g.R.RangeForm.members c.args.form.now) (names_of c.args.parsed.now.allocs) in
    let nodes = c.in_err-write_each.ensures _ _ (element_lines _ line (λ old new x call. search of_calls)) in
    first_failed _ _ _ _ _ _ (search rules) (written_as _ _ _ _ (ap (flat_map line) (c.iter.ensures.rest ∙ c.nodes.ensures)) nodes)

pub returns : goal.returns
returns g c =
    let line = node_line (g.R.RangeForm.members c.args.form.now) (names_of c.args.parsed.now.allocs) in
    let nodes = c.in_ok-write_each.ensures _ _ (element_lines _ line (λ old new x call. search of_calls)) in
    then_written _ _ _ _ _ _ (written_as _ _ _ _ (ap (flat_map line) (c.iter.ensures.rest ∙ c.nodes.ensures)) nodes) c.write_tables.ensures
