use Rattle.first_pass_json.proofs.Scripts.{all_others}
use Rattle.first_pass_json.proofs.ScriptValues.{document_same, string_read}
use Rattle.first_pass_json.proofs.page_laws.law_of_scripts.Goals as goal

pub returns-clause-closed : goal.returns-clause-closed
returns-clause-closed c = all_others

pub returns-clause-value : goal.returns-clause-value
returns-clause-value c = document_same

pub returns-clause-text : goal.returns-clause-text
returns-clause-text c = string_read
