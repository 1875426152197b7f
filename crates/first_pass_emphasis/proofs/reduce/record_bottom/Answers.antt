use Rattle.first_pass_emphasis.proofs.Bottoms.{replaced}
use Rattle.first_pass_emphasis.proofs.reduce.record_bottom.Goals as goal

pub returns-then-is_same_class : goal.returns-then-is_same_class
returns-then-is_same_class c = λ es h b. rw c.loop-i.invariant.items (replaced es c.args.bottoms.now.items c.loop-i.i _ h b)
