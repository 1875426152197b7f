use Rattle.first_pass_labels.specs.Foldings.{folding_of}
use Rattle.first_pass_labels.proofs.FirstOfEach.{tied_same, same_tied}
use Rattle.first_pass_labels.proofs.TextOrder.{same_folding, folding_same}
use Rattle.first_pass_labels.proofs.laws.law_of_keys.Goals as goal

pub returns-clause-equal : goal.returns-clause-equal
returns-clause-equal c = λ x y. (same_folding x y, folding_same x y)

pub returns-clause-tied : goal.returns-clause-tied
returns-clause-tied c = λ x y. (tied_same folding_of x y, same_tied folding_of x y)
