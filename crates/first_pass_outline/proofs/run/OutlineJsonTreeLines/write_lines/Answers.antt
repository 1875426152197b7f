use Rattle.std.proofs.Common.{List, ℕ, false, [], ap, sym, ◌∙◌, rules, of_calls, flat_map}
use Rattle.std.proofs.lemmas.List.Folds.{flat_map-map}
use Rattle.first_pass_host.proofs.HeldLines.{written_as}
use Rattle.first_pass_host.proofs.ItemLines.{element_lines}
use Rattle.first_pass_outline.specs.ContentsLines.{title_line}
use Rattle.first_pass_outline.specs.ContentsViews.{placed_in}
use Rattle.first_pass_outline.specs.Nesting.{Placed}
use Rattle.first_pass_outline.specs.declared.contents.ContentsEntry.{ContentsEntry}
use Rattle.first_pass_outline.proofs.Nestings.{lines_of_titles}
use Rattle.first_pass_outline.proofs.Written.{none_appended}
use Rattle.first_pass_outline.proofs.run.OutlineJsonTreeLines.write_lines.Goals as goal

pub returns-in_err-contents : goal.returns-in_err-contents
returns-in_err-contents g c = none_appended _ _ _ (search rules)

pub returns : goal.returns
returns g c =
    let of_entry : Placed → List ℕ = λ entry. title_line entry.title in
    let line : ContentsEntry → List ℕ = λ e. of_entry (placed_in e) in
    let items = c.write_each.ensures _ _ (element_lines _ line (λ old new x call. search of_calls)) in
    let entries_are = ap (flat_map line) (c.iter.ensures.rest ∙ c.entries.ensures)
    ∙ sym (flat_map-map of_entry placed_in c.in_ok-contents.contents.entries.items)
    ∙ ap (flat_map of_entry) c.in_ok-contents.ensures.entries ∙ lines_of_titles title_line [] false _ in
    written_as _ _ _ _ entries_are items
