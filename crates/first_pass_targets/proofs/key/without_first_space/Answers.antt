use Rattle.std.proofs.Common.{ap, sym, ◌∙◌, arith}
use Rattle.first_pass_items.specs.Bytes.{space}
use Rattle.first_pass_lines.specs.Lines.{begins}
use Rattle.first_pass_targets.proofs.PartFacts.{after_byte}
use Rattle.first_pass_targets.proofs.key.without_first_space.Goals as goal

pub range_from-requires : goal.range_from-requires
range_from-requires c =
    λ some. after_byte space c.args.text.now 0 c.utf8.text
    (ap (begins space) (sym c.as_bytes.ensures.value) ∙ sym c.begins.ensures.value ∙ c.if-begins.true) (omega arith)
