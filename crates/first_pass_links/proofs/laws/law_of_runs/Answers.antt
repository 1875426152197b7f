use Rattle.first_pass_links.proofs.Runs.{run_counted, run_found}
use Rattle.first_pass_links.proofs.laws.law_of_runs.Goals as goal

pub returns-clause-counted : goal.returns-clause-counted
returns-clause-counted c = λ deepest n bs h. run_counted deepest n bs h

pub returns-clause-found : goal.returns-clause-found
returns-clause-found c = λ deepest n bs h. run_found deepest n bs h
