use Rattle.std.proofs.Common.{arith}
use Rattle.first_pass_scan.proofs.MarkerFacts.{content_indent-bound}
use Rattle.first_pass_scan.proofs.PlainFacts.{plain_content}
use Rattle.first_pass_scan.proofs.line_start.LineStart.scan_content_indent.Goals as goal

pub returns-then-is_at_plain : goal.returns-then-is_at_plain
returns-then-is_at_plain c = grind (arith, plain_content)

pub returns : goal.returns
returns c = grind (arith, content_indent-bound)
