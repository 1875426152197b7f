use Rattle.std.proofs.Common.{ℕ, ◌+◌, ◌-◌, List, take, drop, arith, length-take, length-drop}
use Rattle.first_pass_scan.proofs.TableFacts.{pipes-fit}
use Rattle.first_pass_scan.proofs.table_scan.count_header_cols.Goals as goal

pub overflow_add-result : goal.overflow_add-result
overflow_add-result c =
    let rest : List ℕ = drop c.args.start c.args.bytes.now in
    let n : ℕ = c.args.last_pipe_ix - c.args.start + 1 in
    omega (arith, pipes-fit 0 (take n rest), length-take n rest, length-drop c.args.start c.args.bytes.now)
