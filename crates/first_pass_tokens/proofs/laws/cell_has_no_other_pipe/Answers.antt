use Rattle.first_pass_tokens.proofs.CellPipes.{cell_pipes}
use Rattle.first_pass_tokens.proofs.laws.cell_has_no_other_pipe.Goals as goal

pub returns : goal.returns
returns c = λ texts s tokens end after row on cell. cell_pipes s row on cell
