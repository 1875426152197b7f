use Rattle.std.proofs.Common.{arith}
use Rattle.first_pass_lines.proofs.Columns.{taken-yes, after-more, indent-some}
use Rattle.first_pass_scan.proofs.line_start.LineStart.take_columns.Goals as goal

pub loop-taken-preserved : goal.loop-taken-preserved
loop-taken-preserved c = grind (arith, taken-yes, after-more, indent-some)
