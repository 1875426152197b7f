use Rattle.std.proofs.Common.{ap₂}
use Rattle.first_pass_host.proofs.HeldLines.{written_as}
use Rattle.first_pass_names.specs.TableEntries.{names_of, tables_of}
use Rattle.first_pass_json.specs.JsonLines.{lines_in}
use Rattle.first_pass_json.specs.PlacedRanges.{placed_members}
use Rattle.first_pass_json.proofs.run.JsonTreeWithTreeLines.write_lines.Goals as goal

pub returns : goal.returns
returns g c =
    let parsed = c.args.parsed.now in
    written_as _ _ _ _
    (ap₂ (λ lined shown. lines_in (placed_members lined shown) (names_of parsed.allocs) parsed.tree.nodes (tables_of parsed.allocs))
    c.in_ok-form.ensures.lines c.in_ok-form.ensures.source)
    c.write_tree.ensures
