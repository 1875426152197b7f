use Rattle.std.proofs.Common.{◌-◌, arith}
use Rattle.first_pass_leaves.proofs.RawLineLemmas.{line_one, line_two}
use Rattle.first_pass_leaves.proofs.raw_line.append_raw_line.Goals as goal

pub returns-in_ok-append_range-2-clause-line : goal.returns-in_ok-append_range-2-clause-line
returns-in_ok-append_range-2-clause-line c = grind (arith, line_two)

pub returns-in_ok-append_range-3-clause-line : goal.returns-in_ok-append_range-3-clause-line
returns-in_ok-append_range-3-clause-line c = grind (arith, line_one)
