use Rattle.std.proofs.Common.{◌∙◌}
use Rattle.first_pass_inline.proofs.Writes.{write_closed}
use Rattle.first_pass_inline.proofs.walk.close_as.Goals as goal

pub returns : goal.returns
returns c = c.in_ok-push.ensures.items ∙ write_closed c.args.marks.now.items c.args.index c.args.first c.args.last c.requires
