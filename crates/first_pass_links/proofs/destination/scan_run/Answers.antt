use Rattle.std.proofs.Common.{◌≡◌, ◌==◌, ℕ, inl, inr, None, arith, eqb-true}
use Rattle.std.proofs.lemmas.Bool.{cases_Bool}
use Rattle.first_pass_links.specs.Destinations.{if_closed}
use Rattle.first_pass_links.proofs.PlainRuns.{parenthesis_alone}
use Rattle.first_pass_links.proofs.Destinations.{run_passed, run_deep, run_unopened, run_stopped, run_ended}
use Rattle.first_pass_links.proofs.destination.scan_run.Goals as goal
use Rattle.first_pass_links.proofs.destination.scan_run.Goals.{then-loop-at-test+else-not-ends_run, else-loop-at-test}

pub returns-then-closes_none-clause-value : goal.returns-then-closes_none-clause-value
returns-then-closes_none-clause-value c = grind (arith, run_unopened)

pub returns-then-nesting-deepest-clause-value : goal.returns-then-nesting-deepest-clause-value
returns-then-nesting-deepest-clause-value c = grind (arith, run_deep)

pub loop-at-preserved : goal.loop-at-preserved
loop-at-preserved c = grind (arith, parenthesis_alone, run_passed)

-- after the loop the run has ended
pub returns-then-nesting-eq0-clause-value : goal.returns-then-nesting-eq0-clause-value
returns-then-nesting-eq0-clause-value c = grind (arith, then-loop-at-test+else-not-ends_run, run_stopped, else-loop-at-test, run_ended)

open_run : (n : ℕ) → (n ≡ 0 → ⊥) → if_closed n ≡ None
open_run n h = elim (cases_Bool (n == 0)) [ inl e ↦ absurd (h (eqb-true n 0 e)) | inr e ↦ rw e ]

pub returns-else-nesting-eq0-clause-value : goal.returns-else-nesting-eq0-clause-value
returns-else-nesting-eq0-clause-value c = grind (arith, then-loop-at-test+else-not-ends_run, run_stopped, else-loop-at-test, run_ended, open_run)
