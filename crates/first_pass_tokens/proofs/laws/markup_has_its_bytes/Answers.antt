use Rattle.first_pass_tokens.proofs.Common.{StandOver}
use Rattle.first_pass_tokens.proofs.MarkupLemmas.{over_add}
use Rattle.first_pass_tokens.proofs.LineLemmas.{line_keeps, cell_keeps}
use Rattle.first_pass_tokens.proofs.laws.markup_has_its_bytes.Goals as goal

pub returns-clause-line : goal.returns-clause-line
returns-clause-line c =
    λ texts s tokens answer after line. line_keeps s (λ at. StandOver s.text) (λ at to chain order h. h)
    (λ at chain x is. over_add s.text chain x is.over) line tt

pub returns-clause-cell : goal.returns-clause-cell
returns-clause-cell c =
    λ texts s tokens end after cell. cell_keeps s (λ at. StandOver s.text) (λ at to chain order h. h)
    (λ at chain x is. over_add s.text chain x is.over) cell tt
