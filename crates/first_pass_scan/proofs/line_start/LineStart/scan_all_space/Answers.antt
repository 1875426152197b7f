use Rattle.std.proofs.Common.{arith}
use Rattle.first_pass_lines.proofs.Columns.{taken-yes}
use Rattle.first_pass_scan.proofs.BlankFacts.{takes_blank, taken_no, all_taken_here, owed_first}
use Rattle.first_pass_scan.proofs.line_start.LineStart.scan_all_space.Goals as goal

pub loop-2-preserved : goal.loop-2-preserved
loop-2-preserved c = grind (arith, taken-yes, takes_blank)

pub returns : goal.returns
returns c = grind (arith, taken_no, all_taken_here, owed_first)
