use Rattle.std.proofs.Common.{arith}
use Rattle.first_pass_targets.proofs.PartFacts.{after_byte}
use Rattle.first_pass_inline.proofs.follows.label_after.Goals as goal

pub scan_inline_label-requires : goal.scan_inline_label-requires
scan_inline_label-requires c = grind (arith, after_byte)
