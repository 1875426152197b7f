use Rattle.std.proofs.Common.{rules}
use Rattle.first_pass_linked.proofs.Reports.{nothing_written}
use Rattle.first_pass_linked.proofs.report.write_links.Goals as goal

pub returns-in_err-definitions : goal.returns-in_err-definitions
returns-in_err-definitions g c = λ found are. nothing_written _ _ _ (search rules)
