use Rattle.std.proofs.Common.{ap, sym, ◌∙◌, is_eq}
use Rattle.std.specs.Cmp.Lexicographic.{texts_ties}
use Rattle.first_pass_labels.specs.Slots.{slot_folding}
use Rattle.first_pass_labels.proofs.slot.SlotPartialEq.eq.Goals as goal

pub returns : goal.returns
returns g c =
    c.is_eq.ensures ∙ ap is_eq c.cmp.ensures ∙ sym (texts_ties (slot_folding c.args.self.now) (slot_folding c.args.other.now))
