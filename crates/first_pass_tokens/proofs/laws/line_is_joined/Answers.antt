use Rattle.first_pass_tokens.proofs.Common.{AreApart}
use Rattle.first_pass_tokens.proofs.ChainLemmas.{add_token-apart}
use Rattle.first_pass_tokens.proofs.LineLemmas.{line_keeps, cell_keeps}
use Rattle.first_pass_tokens.proofs.laws.line_is_joined.Goals as goal

pub returns-clause-line : goal.returns-clause-line
returns-clause-line c =
    λ texts s tokens answer after line. line_keeps s (λ at. AreApart) (λ at to chain order h. h) (λ at chain x is. add_token-apart chain x) line tt

pub returns-clause-cell : goal.returns-clause-cell
returns-clause-cell c =
    λ texts s tokens end after cell. cell_keeps s (λ at. AreApart) (λ at to chain order h. h) (λ at chain x is. add_token-apart chain x) cell tt
