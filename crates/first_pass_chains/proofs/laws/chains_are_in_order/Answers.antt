use Rattle.first_pass_grammar.proofs.Common.{document}
use Rattle.first_pass_chains.proofs.SequenceChains.{chains_in_order}
use Rattle.first_pass_chains.proofs.laws.chains_are_in_order.Goals as goal

pub returns : goal.returns
returns c = λ text options names nodes tables utf8 h. chains_in_order (document text options names) nodes tables utf8 h
