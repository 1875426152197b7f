use Rattle.first_pass_emphasis.proofs.Normal.{reduced_normal}
use Rattle.first_pass_emphasis.proofs.laws.normal_form.Goals as goal

pub returns : goal.returns
returns c = reduced_normal
