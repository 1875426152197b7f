use Rattle.first_pass_tokens.proofs.Common.{TextsHaveNoBackquote}
use Rattle.first_pass_tokens.proofs.MarkupLemmas.{spare_add}
use Rattle.first_pass_tokens.proofs.LineLemmas.{line_keeps, cell_keeps}
use Rattle.first_pass_tokens.proofs.laws.texts_have_no_backquote.Goals as goal

pub returns-clause-line : goal.returns-clause-line
returns-clause-line c =
    λ texts s tokens answer after line. line_keeps s (λ at. TextsHaveNoBackquote s.text) (λ at to chain order h. h)
    (λ at chain x is. spare_add s.text chain x is.spares) line tt

pub returns-clause-cell : goal.returns-clause-cell
returns-clause-cell c =
    λ texts s tokens end after cell. cell_keeps s (λ at. TextsHaveNoBackquote s.text) (λ at to chain order h. h)
    (λ at chain x is. spare_add s.text chain x is.spares) cell tt
