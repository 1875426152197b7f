use Rattle.std.proofs.Common.{arith}
use Rattle.first_pass_tree.proofs.Common.{length-reverse}
use Rattle.first_pass_tree.proofs.Keeps.{appended_by-is}
use Rattle.first_pass_tree.proofs.SubtreeLemmas.{subtrees-pushed}
use Rattle.first_pass_tree.proofs.forest.Tree+Item.append.Goals as goal

pub invariant_of-self-2 : goal.invariant_of-self-2
invariant_of-self-2 c = record {
  forest = appended_by-is _ c.args.item _ _ _ c.self.invariant.forest c.in_ok-push.ensures.items (omega (arith, length-reverse c.self.inside.spine.items))
      (omega arith);
  known = subtrees-pushed c.self.inside.nodes.items _ _ _ c.in_ok-push.ensures.items c.self.invariant.known;
}
