use Rattle.std.proofs.Common.{arith}
use Rattle.first_pass_tree.proofs.Keeps.{sibling-some, sibling-none}
use Rattle.first_pass_tree.proofs.node_list.sibling_in.Goals as goal
use Rattle.first_pass_tree.proofs.node_list.sibling_in.Goals.{else-end-nodes-via-then-end-nodes+else-nodes-end, else-end-nodes-via-else-end-nodes}

pub returns-then-nodes-end : goal.returns-then-nodes-end
returns-then-nodes-end c = sibling-some _ _ _ _ c.requires c.deeper_end-end.ensures c.if-end-nodes.true c.if-nodes-end.true

pub returns-else-end-nodes : goal.returns-else-end-nodes
returns-else-end-nodes c =
    sibling-none _ _ _ _ c.requires c.deeper_end-end.ensures
    (λ p. elim c.else-end-nodes.branch [
      | else-end-nodes-via-then-end-nodes+else-nodes-end w ↦ w.if-nodes-end.false
      | else-end-nodes-via-else-end-nodes w ↦ absurd (omega (arith, w.if-end-nodes.false))
    ])
