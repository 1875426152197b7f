use Rattle.first_pass_grammar.proofs.WholeTables.TableDepths.{stand_inside}
use Rattle.first_pass_grammar.proofs.laws.rows_stand_inside.Goals as goal

pub returns : goal.returns
returns c = stand_inside
