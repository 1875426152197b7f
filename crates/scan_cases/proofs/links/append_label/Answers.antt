use Rattle.std.proofs.Common.{rules}
use Rattle.first_pass_links.proofs.Labels.{no_prefix}
use Rattle.scan_cases.proofs.links.append_label.Goals as goal

pub scan_link_label_rest-requires-clause-places : goal.scan_link_label_rest-requires-clause-places
scan_link_label_rest-requires-clause-places c = λ following n at b e p u. no_prefix following.now n u (search rules)
