use Rattle.std.proofs.Common.{◌<◌, ◌+◌, drop, get_or, ap, sym, ◌∙◌, arith, length}
use Rattle.std.proofs.lemmas.Str.{IsCharBoundary-after_ascii}
use Rattle.first_pass_lines.specs.Lines.{begins}
use Rattle.first_pass_targets.proofs.PartFacts.{closed_part}
use Rattle.first_pass_targets.proofs.title.scan_inline_title.Goals as goal

pub returns-clause-from : goal.returns-clause-from
returns-clause-from c =
    let place = c.args.place in
    let content = c.args.content.now in
    let n = c.title_len.result in
    let a = c.in_ok-close.ensures.ascii in
    let l : place < length content = grind arith in
    let f : get_or content place 0 < 128 = grind arith in
    let b = IsCharBoundary-after_ascii content place c.utf8.content l f in
    let there = c.rest_of-2.ensures.value ∙ ap (drop (place + 1 + n)) c.as_bytes-bytes.ensures.value in
    closed_part c.in_ok-close.close content place (place + 1) (place + 1 + n) c.utf8.content b (omega arith) (omega arith)
    (ap (begins c.in_ok-close.close) (sym there) ∙ sym c.begins.ensures.value ∙ c.if-not-begins.false) a.1
