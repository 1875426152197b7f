use Rattle.first_pass_definitions.proofs.ReferenceFacts.{reference_blank, reference_last}
use Rattle.first_pass_definitions.proofs.laws.law_of_definitions.Goals as goal

pub returns-clause-blank : goal.returns-clause-blank
returns-clause-blank c = reference_blank

pub returns-clause-last : goal.returns-clause-last
returns-clause-last c = reference_last
