use Rattle.std.proofs.Common.{List, ℕ, ap, sym, ◌∙◌, of_calls, flat_map}
use Rattle.std.proofs.lemmas.List.Folds.{flat_map-map}
use Rattle.first_pass_host.proofs.HeldLines.{written_as}
use Rattle.first_pass_host.proofs.ItemLines.{element_lines}
use Rattle.first_pass_outline.specs.Entries.{entry_in}
use Rattle.first_pass_outline.specs.Lines.{entry_line}
use Rattle.first_pass_outline.specs.declared.outline.OutlineEntry.{OutlineEntry}
use Rattle.first_pass_outline.proofs.lines.write_entries.Goals as goal

pub returns : goal.returns
returns g c =
    let line : OutlineEntry → List ℕ = λ e. entry_line (entry_in e) in
    let entries = c.write_each.ensures _ _ (element_lines _ line (λ old new x call. search of_calls)) in
    written_as _ _ _ _ (ap (flat_map line) c.iter.ensures.rest ∙ sym (flat_map-map entry_line entry_in c.args.entries.now)) entries
