use Rattle.std.proofs.Common.{arith, sym, ◌∙◌, ◌-◌}
use Rattle.first_pass_tree.proofs.Keeps.{in_table-turn, in_table-stop, in_table-more, in_table-table}
use Rattle.first_pass_tree.proofs.node_list.in_table_of.Goals as goal

pub returns-in-Table : goal.returns-in-Table
returns-in-Table c =
    let t =
    in_table-turn c.args.nodes.now c.args.spine.now c.loop-left.left (c.loop-left.left - 1) _ _ (omega arith) (omega arith) c.loop-left.invariant.open_path in
    sym (in_table-table _ _ _ c.in-Table.is) ∙ sym t.0 ∙ c.loop-left.invariant.same

pub loop-left-preserved : goal.loop-left-preserved
loop-left-preserved c =
    let t =
    in_table-turn c.args.nodes.now c.args.spine.now c.loop-left.left (c.loop-left.left - 1) _ _ (omega arith) (omega arith) c.loop-left.invariant.open_path in
    record {
      within = omega arith;
      same = sym (in_table-more _ _ c.in-TableHead.is) ∙ sym t.0 ∙ c.loop-left.invariant.same;
      open_path = t.1;
    }

pub returns-in_default : goal.returns-in_default
returns-in_default c =
    let t =
    in_table-turn c.args.nodes.now c.args.spine.now c.loop-left.left (c.loop-left.left - 1) _ _ (omega arith) (omega arith) c.loop-left.invariant.open_path in
    let d = c.in_default in
    sym (in_table-stop _ _ d.not-Table d.not-TableHead d.not-TableRow d.not-TableCell) ∙ sym t.0 ∙ c.loop-left.invariant.same
