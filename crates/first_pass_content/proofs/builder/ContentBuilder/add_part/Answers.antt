use Rattle.std.proofs.Common.{◌++◌, ap, ◌∙◌, arith}
use Rattle.first_pass_content.specs.Content.{copied}
use Rattle.first_pass_content.proofs.Growth.{grown_content}
use Rattle.first_pass_content.proofs.builder.ContentBuilder.add_part.Goals as goal

pub returns-clause-value : goal.returns-clause-value
returns-clause-value c =
    let s = c.stop_at.new.self in
    let text = c.args.text.now in
    grown_content text s.bytes.items s.runs.items s.last c.args.part.start c.args.part.«end» c.min-end.result c.in_ok-stop_at.ensures.sound
    c.in_ok-stop_at.ensures.there c.if-end-part.false (omega (arith, c.min-end.ensures))
    ∙ ap (λ l. l ++ copied text c.args.part) c.in_ok-stop_at.ensures.value
