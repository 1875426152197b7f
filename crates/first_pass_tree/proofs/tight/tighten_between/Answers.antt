use Rattle.std.proofs.Common.{arith}
use Rattle.first_pass_tree.proofs.TightLemmas.{tightening_next}
use Rattle.first_pass_tree.proofs.tight.tighten_between.Goals as goal

pub loop-at-preserved : goal.loop-at-preserved
loop-at-preserved c =
    tightening_next c.args.tree.now c.loop-at.tree c.tighten.new.tree c.args.list_depth c.args.from c.args.to c.loop-at.at
    (omega arith) c.requires.deeper c.loop-at-test.true c.loop-at.invariant c.tighten.ensures
