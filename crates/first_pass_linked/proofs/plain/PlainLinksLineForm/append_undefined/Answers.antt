use Rattle.std.proofs.Common.{ap, codes}
use Rattle.std.proofs.lemmas.Result.{on_ok_weaker}
use Rattle.first_pass_linked.specs.Lines.{ended_label, last_range}
use Rattle.first_pass_linked.proofs.MarkLines.{three_parts}
use Rattle.first_pass_linked.proofs.plain.PlainLinksLineForm.append_undefined.Goals as goal

pub returns : goal.returns
returns c =
    on_ok_weaker c.append_last_range.result
    (λ e. three_parts c.args.line.now.items (codes "undefined [") _ _ _ _ _ _ _ c.in_ok-extend_from_slice.ensures.items c.in_ok-append_label.ensures e
    (ap ended_label c.bytes_in.ensures) (ap last_range c.range_in.ensures))
    c.append_last_range.ensures
