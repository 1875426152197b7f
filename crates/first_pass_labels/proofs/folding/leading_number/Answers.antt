use Rattle.first_pass_labels.proofs.FrontLemmas.{front_number}
use Rattle.first_pass_labels.proofs.folding.leading_number.Goals as goal

pub returns-clause-value : goal.returns-clause-value
returns-clause-value c = front_number c.first_bytes.result c.args.bytes.now c.from_be_bytes.result c.from_be_bytes.ensures c.first_bytes.ensures
