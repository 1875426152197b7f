use Rattle.std.proofs.Common.{arith}
use Rattle.first_pass_scan.proofs.RuleFacts.{none_further, none_before_plain}
use Rattle.first_pass_scan.proofs.line_start.LineStart.is_at_rule.Goals as goal

pub invariant_of-self : goal.invariant_of-self
invariant_of-self c = grind (arith, none_further)

pub returns-then-is_plain_third-clause-value : goal.returns-then-is_plain_third-clause-value
returns-then-is_plain_third-clause-value c = grind (arith, none_before_plain)
