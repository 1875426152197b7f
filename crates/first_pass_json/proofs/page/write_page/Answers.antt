use Rattle.std.proofs.Common.{ℕ, List, ap, subst, rules, take_all, flat_map}
use Rattle.std.proofs.KnownBytes.{Appends-nil, Appends-trans}
use Rattle.std.specs.Io.KnownBytes.{Appends}
use Rattle.first_pass_host.proofs.HeldLines.{first_failed, then_written, written_as}
use Rattle.first_pass_host.specs.declared.tree_report.Parsed.{Parsed}
use Rattle.first_pass_names.specs.TableEntries.{names_of, tables_of}
use Rattle.first_pass_json.specs.JsonLines.{json_lines}
use Rattle.first_pass_json.specs.Page.{page_text, part_text}
use Rattle.first_pass_json.specs.declared.page.Part.{Part}
use Rattle.first_pass_json.specs.declared.page.TreePage.{TreePage}
use Rattle.first_pass_json.proofs.PageParts.{parts_around, parts_more}
use Rattle.first_pass_json.proofs.page.write_page.Goals as goal

-- a part in the page of a text with its tree
abbrev part_of : TreePage → Parsed → Part → List ℕ
part_of page parsed = part_text page parsed.text.now (json_lines (names_of parsed.allocs) parsed.tree.nodes (tables_of parsed.allocs))

pub loop-part-init : goal.loop-part-init
loop-part-init g c = Appends-nil _

pub loop-part-preserved : goal.loop-part-preserved
loop-part-preserved g c =
    let text = part_of c.args.page.now c.args.parsed.now in
    subst (Appends _ _) (parts_more text c.args.page.now.template.now c.loop-part.part-index _ c.loop-part-test.true)
    (Appends-trans _ _ _ _ _ c.loop-part.invariant c.in_ok-write_part.ensures.ok)

pub returns-in_err-write_part : goal.returns-in_err-write_part
unfolding page_text
returns-in_err-write_part g c =
    let text = part_of c.args.page.now c.args.parsed.now in
    written_as _ _ _ _ (parts_around text c.args.page.now.template.now c.loop-part.part-index _ c.loop-part-test.true)
    (then_written _ _ _ _ _ _ record { ok = c.loop-part.invariant; front = tt; fault = tt }
    (first_failed _ _ _ _ _ _ (search rules) c.in_err-write_part.ensures))

pub returns : goal.returns
unfolding page_text
returns g c =
    let text = part_of c.args.page.now c.args.parsed.now in
    record {
      ok = subst (Appends _ _) (ap (flat_map text) (take_all c.loop-part.part-index c.args.page.now.template.now c.loop-part-test.false)) c.loop-part.invariant;
      front = tt;
      fault = tt;
    }
