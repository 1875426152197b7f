use Rattle.std.proofs.Common.{List, ℕ, ◌++◌, Err, codes, refl, ap, sym, ◌∙◌, rules, of_calls, flat_map}
use Rattle.std.proofs.lemmas.List.Folds.{flat_map-map}
use Rattle.first_pass_host.proofs.HeldLines.{written_as, first_failed, then_written}
use Rattle.first_pass_host.proofs.ItemLines.{element_lines}
use Rattle.first_pass_names.specs.TableEntries.{names_of}
use Rattle.first_pass_outline.specs.ContentsLines.{closed, object_opened, open_at_end}
use Rattle.first_pass_outline.specs.ContentsViews.{placed_in}
use Rattle.first_pass_outline.specs.Nesting.{Placed, contents}
use Rattle.first_pass_outline.specs.Titles.{titles}
use Rattle.first_pass_outline.specs.declared.contents.ContentsEntry.{ContentsEntry}
use Rattle.first_pass_outline.proofs.Written.{none_appended}
use Rattle.first_pass_outline.proofs.run.ContentsJsonTreeLines.write_lines.Goals as goal

pub returns-in_err-contents : goal.returns-in_err-contents
returns-in_err-contents g c = none_appended _ _ _ (search rules)

pub returns-in_err-write_bytes : goal.returns-in_err-write_bytes
returns-in_err-write_bytes g c =
    let entries : List Placed = contents (titles c.args.parsed.now.text.now (names_of c.args.parsed.now.allocs) c.args.parsed.now.tree.nodes) in
    let objects : List ℕ = flat_map object_opened entries in
    first_failed (codes "[" ++ objects) (closed (open_at_end 0 entries) ++ codes "]\n") _ _ _ _ (search rules)
    (first_failed (codes "[") objects _ _ _ (Err _) refl c.in_err-write_bytes.ensures)

pub returns-in_err-write_each : goal.returns-in_err-write_each
returns-in_err-write_each g c =
    let entries : List Placed = contents (titles c.args.parsed.now.text.now (names_of c.args.parsed.now.allocs) c.args.parsed.now.tree.nodes) in
    let objects : List ℕ = flat_map object_opened entries in
    let line : ContentsEntry → List ℕ = λ e. object_opened (placed_in e) in
    let items = c.in_err-write_each.ensures _ _ (element_lines _ line (λ old new x call. search of_calls)) in
    let objects_are = ap (flat_map line) (c.iter.ensures.rest ∙ c.entries.ensures)
    ∙ sym (flat_map-map object_opened placed_in c.in_ok-contents.contents.entries.items) ∙ ap (flat_map object_opened) c.in_ok-contents.ensures.entries in
    first_failed (codes "[" ++ objects) (closed (open_at_end 0 entries) ++ codes "]\n") _ _ _ _ (search rules)
    (then_written (codes "[") objects _ _ _ (Err _) c.in_ok-write_bytes.ensures (written_as _ objects _ _ objects_are items))

pub returns : goal.returns
returns g c =
    let entries : List Placed = contents (titles c.args.parsed.now.text.now (names_of c.args.parsed.now.allocs) c.args.parsed.now.tree.nodes) in
    let objects : List ℕ = flat_map object_opened entries in
    let line : ContentsEntry → List ℕ = λ e. object_opened (placed_in e) in
    let items = c.in_ok-write_each.ensures _ _ (element_lines _ line (λ old new x call. search of_calls)) in
    let objects_are = ap (flat_map line) (c.iter.ensures.rest ∙ c.entries.ensures)
    ∙ sym (flat_map-map object_opened placed_in c.in_ok-contents.contents.entries.items) ∙ ap (flat_map object_opened) c.in_ok-contents.ensures.entries in
    let end_is = ap (λ n. closed n ++ codes "]\n") c.in_ok-contents.ensures.at_end in
    then_written (codes "[" ++ objects) (closed (open_at_end 0 entries) ++ codes "]\n") _ _ _ _
    (then_written (codes "[") objects _ _ _ _ c.in_ok-write_bytes.ensures (written_as _ objects _ _ objects_are items))
    (written_as _ _ _ _ end_is c.write_end.ensures)
