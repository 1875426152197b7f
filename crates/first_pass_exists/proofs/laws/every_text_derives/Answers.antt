use Rattle.first_pass_exists.proofs.Completed.{text_derives}
use Rattle.first_pass_exists.proofs.laws.every_text_derives.Goals as goal

pub returns : goal.returns
returns c = text_derives
