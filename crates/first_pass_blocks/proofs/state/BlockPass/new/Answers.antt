use Rattle.std.proofs.Common.{length, None, false, refl, arith, rules}
use Rattle.first_pass_blocks.proofs.Common.{state_with, ordered_none, first_named, first_whole, first_notes, first_closes, ordered_first, ready_first}
use Rattle.first_pass_blocks.proofs.FootnoteLabels.{labels_none}
use Rattle.first_pass_blocks.proofs.state.BlockPass.new.Goals as goal

pub returns-clause-ready : goal.returns-clause-ready
returns-clause-ready c = λ names.
    ready_first c.args.text.now c.args.options names c.set_end.new.self c.root-root.result c.root-root.ensures.value
    (rw c.in_ok-tree.ensures at c.set_end.ensures)

pub returns-clause-order : goal.returns-clause-order
returns-clause-order c =
    let text = c.args.text.now in
    let tree = c.set_end.new.self in
    let is = rw c.in_ok-tree.ensures at c.set_end.ensures in (
      ordered_none text (state_with tree None false) 0 refl (omega arith)
          (ordered_first text tree c.root-root.result c.utf8.text c.root-root.ensures.value is),
      first_closes text tree c.root-root.result (length text) 0 is,
    )

pub returns-clause-named : goal.returns-clause-named
returns-clause-named c =
    first_named _ c.set_end.new.self c.root-root.result (length c.args.text.now) (rw c.in_ok-tree.ensures at c.set_end.ensures)

pub returns-clause-tables : goal.returns-clause-tables
returns-clause-tables c =
    first_whole _ c.set_end.new.self c.root-root.result (length c.args.text.now) (rw c.in_ok-tree.ensures at c.set_end.ensures)

pub returns-clause-labels : goal.returns-clause-labels
returns-clause-labels c =
    labels_none _ c.set_end.new.self.nodes _
    (first_notes c.set_end.new.self c.root-root.result (length c.args.text.now) (rw c.in_ok-tree.ensures at c.set_end.ensures)) (search rules)
