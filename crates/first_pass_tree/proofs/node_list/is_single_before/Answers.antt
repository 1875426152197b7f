use Rattle.std.proofs.Common.{◌∙◌, sym, arith, length-drop}
use Rattle.first_pass_tree.proofs.Cuts.{single-late, single-other}
use Rattle.first_pass_tree.proofs.node_list.is_single_before.Goals as goal
use Rattle.first_pass_tree.proofs.node_list.is_single_before.Goals.{then-first-nodes, else-first-nodes}

pub returns-else-nodes-first : goal.returns-else-nodes-first
returns-else-nodes-first c =
    let at = c.args.first in
    let ns = c.args.nodes.now in
    elim c.if-first-nodes.branch [
      | then-first-nodes w ↦
          c.if-nodes-first.false ∙ sym (single-late c.args.end at ns _ w.if-first-nodes.true (sym w.value-is ∙ c.if-nodes-first.false))
      | else-first-nodes w ↦
          c.if-nodes-first.false ∙ sym (single-other c.args.end _ (λ one. w.if-first-nodes.false (omega (arith, one, length-drop at ns))))
    ]
