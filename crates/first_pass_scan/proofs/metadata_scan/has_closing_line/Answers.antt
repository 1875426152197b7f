use Rattle.std.proofs.Common.{length, nat_lt, ap, ◌∙◌}
use Rattle.first_pass_scan.proofs.MetadataFacts.{any_line-sought}
use Rattle.first_pass_scan.proofs.metadata_scan.has_closing_line.Goals as goal

pub returns : goal.returns
returns c = ap (λ k. nat_lt k (length c.args.bytes.now)) c.scan_closing_line.ensures ∙ any_line-sought c.args.byte c.args.bytes.now 0
