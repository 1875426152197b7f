use Rattle.std.proofs.Common.{◌≡◌, length}
use Rattle.first_pass_outline.specs.EntryTexts.{has_label_end}
use Rattle.first_pass_outline.proofs.entry_text.has_label_end.Given as goal

-- the end of a label is sought in the rest
abbrev pub invariant-loop-rest : goal.invariant-loop-rest
invariant-loop-rest l = has_label_end l.rest ≡ has_label_end l.bytes

abbrev pub decreases-loop-rest : goal.decreases-loop-rest
decreases-loop-rest l = length l.rest
