use Rattle.std.proofs.Common.{sym, ◌∙◌, arith}
use Rattle.first_pass_leaves.proofs.AttributeEnds.{end_none, end_some}
use Rattle.first_pass_leaves.proofs.attributes.chain_end.Goals as goal

pub returns-in-None : goal.returns-in-None
returns-in-None c f chain bare is = end_none f c.args.tree.now chain c.args.start bare.none is (sym c.cur.ensures ∙ c.in-None.is)

pub returns-in-Some : goal.returns-in-Some
returns-in-Some c f chain bare is = grind (arith, end_some)
