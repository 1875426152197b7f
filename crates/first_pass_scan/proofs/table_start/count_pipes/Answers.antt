use Rattle.std.proofs.Common.{ℕ, true, false, List, refl, sym, ◌∙◌, arith}
use Rattle.first_pass_scan.proofs.HeaderRows.{byte_before, open_at, pipes-first, step, pipes-end, ending-end}
use Rattle.first_pass_scan.proofs.TableFacts.{pipes-fit}
use Rattle.first_pass_scan.proofs.table_start.count_pipes.Goals as goal
use Rattle.first_pass_scan.proofs.table_start.count_pipes.Goals.{then-is_open_pipe, else-is_open_pipe}

pub returns-clause-pipes : goal.returns-clause-pipes
returns-clause-pipes c =
    let row : List ℕ = c.args.row.now in
    pipes-end row c.loop-at.at (byte_before row c.loop-at.at) c.loop-at.pipes c.loop-at-test.false c.loop-at.invariant.counted.pipes_left

pub returns-clause-end : goal.returns-clause-end
returns-clause-end c = grind (arith, ending-end)

pub loop-at-init : goal.loop-at-init
loop-at-init c = record { counted = record { pipes_left = omega arith; ending = refl } }

pub loop-at-preserved : goal.loop-at-preserved
loop-at-preserved c =
    let row : List ℕ = c.args.row.now in
    let old = c.loop-at in
    let l = c.loop-at-test.true in
    let is = open_at row old.at ∙ sym c.is_open_pipe.ensures in
    elim c.if-is_open_pipe.branch [
      | then-is_open_pipe w ↦
          record { counted = rw (w.pipes-is, w.end-is) (step row old.at old.pipes old.end true l (is ∙ w.if-is_open_pipe.true) old.invariant.counted) }
      | else-is_open_pipe w ↦
          record { counted = rw (w.pipes-is, w.end-is) (step row old.at old.pipes old.end false l (is ∙ w.if-is_open_pipe.false) old.invariant.counted) }
    ]

pub overflow_add-pipes : goal.overflow_add-pipes
overflow_add-pipes c = grind (arith, open_at, pipes-first, pipes-fit)
