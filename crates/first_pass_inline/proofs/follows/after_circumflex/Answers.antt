use Rattle.std.proofs.Common.{ap, sym, ◌∙◌, arith}
use Rattle.first_pass_items.specs.Bytes.{circumflex}
use Rattle.first_pass_lines.specs.Lines.{begins}
use Rattle.first_pass_targets.proofs.PartFacts.{after_byte}
use Rattle.first_pass_inline.proofs.follows.after_circumflex.Goals as goal

pub range_from-requires : goal.range_from-requires
range_from-requires c =
    λ some. after_byte circumflex c.args.label.now 0 c.utf8.label
    (ap (begins circumflex) (sym c.as_bytes.ensures.value) ∙ sym c.begins.ensures.value ∙ c.if-begins.true) (omega arith)
