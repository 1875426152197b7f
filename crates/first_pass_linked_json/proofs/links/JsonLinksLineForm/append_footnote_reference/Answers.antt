use Rattle.std.proofs.Common.{ap, codes, drop, ◌∙◌}
use Rattle.std.proofs.lemmas.Result.{on_ok_weaker}
use Rattle.first_pass_linked.proofs.MarkLines.{three_parts}
use Rattle.first_pass_linked_json.specs.LinkObjects.{label_string, range_end}
use Rattle.first_pass_linked_json.proofs.links.JsonLinksLineForm.append_footnote_reference.Goals as goal

pub returns : goal.returns
returns c =
    on_ok_weaker c.append_end.result
    (λ e. three_parts c.args.line.now.items (codes "{\"footnote_reference\":") _ _ _ _ _ _ _ c.in_ok-extend_from_slice.ensures.items
    c.in_ok-append_label.ensures e (ap label_string (c.after_first.ensures ∙ ap (drop 1) c.bytes_in.ensures)) (ap range_end c.range_in.ensures))
    c.append_end.ensures
