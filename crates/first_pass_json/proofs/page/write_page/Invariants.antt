use Rattle.std.proofs.Common.{take, flat_map}
use Rattle.std.specs.Io.KnownBytes.{Appends}
use Rattle.first_pass_names.specs.TableEntries.{names_of, tables_of}
use Rattle.first_pass_json.specs.JsonLines.{json_lines}
use Rattle.first_pass_json.specs.Page.{part_text}
use Rattle.first_pass_json.proofs.page.write_page.Given as goal

-- the parts so far are written
abbrev pub invariant-loop-part : goal.invariant-loop-part
invariant-loop-part g l =
    let lines = json_lines (names_of l.parsed.allocs) l.parsed.tree.nodes (tables_of l.parsed.allocs) in
    Appends (g.W.Write.contents l.initial.output) (g.W.Write.contents l.output)
    (flat_map (part_text l.page l.parsed.text.now lines) (take l.part-index l.page.template.now))
