use Rattle.std.proofs.Common.{◌+◌, drop, ap, sym, ◌∙◌, arith, drop-drop}
use Rattle.first_pass_items.specs.Bytes.{right_bracket}
use Rattle.first_pass_lines.specs.Lines.{begins}
use Rattle.first_pass_targets.proofs.PartFacts.{closed_part}
use Rattle.first_pass_targets.proofs.label.scan_inline_label.Goals as goal

pub returns-clause-from : goal.returns-clause-from
returns-clause-from c =
    let place = c.args.place in
    let rest = c.rest_of-rest.ensures.value ∙ ap (drop place) c.as_bytes.ensures.value in
    let there = c.rest_of.ensures.value ∙ ap (drop c.label_len-len.result) rest ∙ drop-drop c.label_len-len.result place c.args.content.now in
    closed_part right_bracket c.args.content.now place place (place + c.label_len-len.result) c.utf8.content c.requires (omega arith) (omega arith)
    (ap (begins right_bracket) (sym there) ∙ sym c.begins.ensures.value ∙ c.if-not-begins.false) (omega arith)
