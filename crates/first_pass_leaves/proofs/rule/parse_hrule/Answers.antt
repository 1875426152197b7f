use Rattle.std.proofs.Common.{arith}
use Rattle.first_pass_tree.proofs.Callers.{appended-block}
use Rattle.first_pass_leaves.proofs.OrderHeading.{rule_fits}
use Rattle.first_pass_leaves.proofs.rule.parse_hrule.Goals as goal

pub returns-clause-fits : goal.returns-clause-fits
returns-clause-fits c text from following starts ends = grind (arith, rule_fits, appended-block)
