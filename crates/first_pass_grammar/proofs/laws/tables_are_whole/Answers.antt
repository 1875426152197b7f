use Rattle.first_pass_grammar.proofs.Common.{document}
use Rattle.first_pass_grammar.proofs.WholeTables.WholeForests.{derived_whole}
use Rattle.first_pass_grammar.proofs.laws.tables_are_whole.Goals as goal

pub returns : goal.returns
returns c = λ text options names nodes tables h. derived_whole (document text options names) nodes tables h
