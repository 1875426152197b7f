-- The end of a run over a table of cases (this project).
use Rattle.std.specs.Prelude.{◌≡◌, ◌==◌, ℕ, List, [], ◌++◌, String, Result, Ok, Err, IsErrAnd, if◌then◌else◌, codes, decimal, string_bytes}
use Rattle.std.specs.declared.alloc.Global.{Global}
use Rattle.first_pass_host.specs.declared.fault.RunFault.{RunFault}
use Rattle.first_pass_host.specs.Streams.{Stream, IsUntouched, WritesText}
use Rattle.first_pass_cases.specs.declared.fault.CasesFault.{CasesFault}
use Rattle.first_pass_cases.specs.declared.tally.Tally.{Tally}

-- the line that ends a report: the number of cases, and how many of them differ
abbrev pub tally_line : Tally → List ℕ
tally_line tally = decimal tally.cases ++ (codes " cases, " ++ (decimal tally.differ ++ codes " differ\n"))

-- the exit status of a program: 0 if no case differs, 1 if one does, 2 after a fault
abbrev pub status_of : Result Tally CasesFault → ℕ
status_of (Ok tally) = if tally.differ == 0 then 0 else 1
status_of (Err fault) = 2

-- the result after the writes of a report: the tally, or the fault that ended them
abbrev pub IsAfterWrites : {E : Type 0} → (RunFault → E → Type 0) → Tally → Result (Unit {0}) RunFault → Result Tally E → Type 0
IsAfterWrites gives tally (Ok _) result = result ≡ Ok tally
IsAfterWrites gives tally (Err fault) result = IsErrAnd result (gives fault)

-- The report and the line of the tally are written after a comparison. If the comparison ended with a fault, nothing is
-- written, and this fault is the result.
abbrev pub WritesReport : {E : Type 0} → (RunFault → E → Type 0) → Result Tally E → List ℕ → Stream → Result Tally E → Type 0
WritesReport gives (Ok tally) report output result =
    (written : Result (Unit {0}) RunFault) × WritesText (report ++ tally_line tally) output written × IsAfterWrites gives tally written result
WritesReport gives (Err fault) report output result = IsUntouched output × (result ≡ Err fault)

-- a comparison gets an empty report and appends to it, and then the report is written
pub record ReportsCases {E : Type 0} (compares : String Global → Result Tally E → String Global → Type 0) (gives : RunFault → E → Type 0)
    (output : Stream) (result : Result Tally E) : Type 0 where
  pub empty : String Global
  pub report : String Global
  pub compared : Result Tally E
  pub is_empty : string_bytes empty ≡ []
  pub compare : compares empty compared report
  pub writes : WritesReport gives compared (string_bytes report) output result
