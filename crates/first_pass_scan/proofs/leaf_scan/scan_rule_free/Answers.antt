use Rattle.std.proofs.Common.{arith}
use Rattle.first_pass_scan.proofs.RuleFacts.{none_begins}
use Rattle.first_pass_scan.proofs.leaf_scan.scan_rule_free.Goals as goal

pub returns-in-len1-up-clause-none : goal.returns-in-len1-up-clause-none
returns-in-len1-up-clause-none c = grind (arith, none_begins)
