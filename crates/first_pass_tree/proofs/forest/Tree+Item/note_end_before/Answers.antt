use Rattle.std.proofs.Common.{◌≤◌, length, arith}
use Rattle.first_pass_tree.proofs.Common.{depths}
use Rattle.first_pass_tree.proofs.SubtreeLemmas.{current-subtree, fewer-subtree, subtrees-ended, subtrees-up_to}
use Rattle.first_pass_tree.proofs.forest.Tree+Item.note_end_before.Goals as goal

pub invariant_of-self : goal.invariant_of-self
invariant_of-self c =
    let ns = c.self.inside.nodes.items in
    let current = c.in-Some.current in
    let at = c.args.ix.0 in
    let w : at ≤ length ns = omega arith in
    let s = fewer-subtree (depths ns) current.0 at (length ns) c.if-current-ix.true w (current-subtree _ current c.in-Some.is c.self.invariant.forest) in
    record {
      forest = c.self.invariant.forest;
      known = subtrees-up_to (depths ns) at (length ns) _ w
          (subtrees-ended (depths ns) (length ns) current.0 at _ _ c.note_end.ensures s c.self.invariant.known);
    }
