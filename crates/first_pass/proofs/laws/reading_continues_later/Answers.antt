use Rattle.first_pass.proofs.Later.{read_ended, read_later}
use Rattle.first_pass.proofs.laws.reading_continues_later.Goals as goal

pub returns-clause-to : goal.returns-clause-to
returns-clause-to c = λ text r from at read low within. read_later text r from at low within read

pub returns-clause-ended : goal.returns-clause-ended
returns-clause-ended c = λ options text r from at forest read low within ended. read_ended options text r from at forest read low within ended
