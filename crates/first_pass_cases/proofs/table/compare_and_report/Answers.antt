use Rattle.std.proofs.Common.{◌≡◌, ◌++◌, ℕ, List, Result, Ok, refl, sym, ap, subst, rules, string_bytes}
use Rattle.std.specs.Fn.{FnOnceReturnsAtMut}
use Rattle.first_pass_host.specs.declared.fault.RunFault.{RunFault}
use Rattle.first_pass_host.specs.Streams.{Stream, WritesText}
use Rattle.first_pass_host.proofs.HeldLines.{written_as}
use Rattle.first_pass_cases.specs.declared.tally.Tally.{Tally}
use Rattle.first_pass_cases.specs.Tallies.{tally_line, IsAfterWrites, WritesReport, ReportsCases}
use Rattle.first_pass_cases.proofs.table.compare_and_report.Given.{Over}
use Rattle.first_pass_cases.proofs.table.compare_and_report.Goals as goal
use Rattle.first_pass_cases.proofs.table.compare_and_report.Goals.{After-compare}

-- the writes after a comparison without a fault
written_after : {E : Type 0} (gives : RunFault → E → Type 0) (compared result : Result Tally E) (tally : Tally) (report : List ℕ) (output : Stream)
    (written : Result (Unit {0}) RunFault) → compared ≡ Ok tally → WritesText (report ++ tally_line tally) output written
    → IsAfterWrites gives tally written result → WritesReport gives compared report output result
written_after gives compared result tally report output written is writes after =
    subst (λ c. WritesReport gives c report output result) (sym is) (written, writes, after)

-- the comparison and the writes after it
reported : (g : Over) (c : After-compare g) (output : Stream) (result : Result Tally g.row.E.Denot)
    → WritesReport g.E.From.from_gives c.compare.result (string_bytes c.compare.new.arg2) output result
    → ReportsCases (FnOnceReturnsAtMut g.F.FnOnce c.args.compare) g.E.From.from_gives output result
reported g c output result writes = record {
  empty = c.new-report.result;
  report = c.compare.new.arg2;
  compared = c.compare.result;
  is_empty = search rules;
  compare = record { shown = _; shows = refl; left = _; met = c.compare.ensures; leaves = refl };
  writes = writes;
}

pub returns-in_err-tally : goal.returns-in_err-tally
returns-in_err-tally g c = reported g (goal.at.returns-in_err-tally g c).After-compare _ _ (search rules)

pub returns-in_err-write_report : goal.returns-in_err-write_report
returns-in_err-write_report g c =
    reported g (goal.at.returns-in_err-write_report g c).After-compare _ _
    (written_after _ _ _ c.in_ok-tally.tally _ _ _ (search rules)
    (written_as _ _ _ _ (ap (λ t. t ++ tally_line c.in_ok-tally.tally) c.as_str.ensures.value) c.write_report.ensures) (search rules))

pub returns : goal.returns
returns g c =
    reported g (goal.at.returns g c).After-compare _ _
    (written_after _ _ _ c.in_ok-tally.tally _ _ _ (search rules)
    (written_as _ _ _ _ (ap (λ t. t ++ tally_line c.in_ok-tally.tally) c.as_str.ensures.value) c.write_report.ensures) (search rules))
