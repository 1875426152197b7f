use Rattle.first_pass_emphasis.proofs.Normal.{one_normal}
use Rattle.first_pass_emphasis.proofs.laws.one_normal_form.Goals as goal

pub returns : goal.returns
returns c = λ p q r h g. one_normal h.0.0 g.0.0 p q r h.0.1 h.1 g.0.1 g.1
