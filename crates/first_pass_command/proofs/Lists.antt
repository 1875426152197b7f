-- The run of a call over its names, and of a call that has a list.
use Rattle.std.proofs.Common.{◌≡◌, ℕ, Bool, false, List, Option, Some, Bor, inl, inr, length, map, nat_lt, option_map, subst, sym}
use Rattle.std.proofs.lemmas.List.{length-map}
use Rattle.first_pass_host.specs.Streams.{Stream}
use Rattle.first_pass_json.specs.declared.page.Part.{Part}
use Rattle.first_pass_program.specs.declared.words.call.Call.{Call}
use Rattle.first_pass_program.specs.declared.words.call.ReportName.{ReportName}
use Rattle.first_pass_command.specs.Calls.{HoldsList, call_setting, RunsCall, RunsListed, RunsOver, file_names, texts_of}
use Rattle.first_pass_command.specs.Files.{RunsEach, Setting, setting, start}
use Rattle.first_pass_command.specs.Reports.{is_headed, says_in}
use Rattle.first_pass_command.specs.declared.run.Progress.{Progress}

-- the bytes of the list are read
pub list_is_read : (given : Bool → Setting) (call : Call) (name : Bor (List ℕ)) (bytes : List ℕ) (output errors : Stream) (after : Progress)
    → call.list ≡ Some name → (given false).Holds name.now bytes → RunsListed given call bytes output errors after → RunsCall given call output errors after
list_is_read given call name bytes output errors after is held (inl runs) = inl record {
  list = Some bytes;
  held = subst (λ l. HoldsList (given false).Holds (option_map (λ n. n.now) l) (Some bytes)) (sym is) held;
  runs = subst (λ l. RunsOver given (texts_of (file_names call) (option_map (λ _. bytes) l)) output errors after) is runs;
}
list_is_read given call name bytes output errors after is held (inr fails) = inr fails

-- the run with the report of the call
pub runs_as : (Holds : List ℕ → List ℕ → Type 0) (template : List Part) (clock : Option (List ℕ)) (call : Call) (report : ReportName)
    (names : List (Bor (List ℕ))) (output errors : Stream) (after : Progress) → call.report ≡ report
    → RunsEach (setting (says_in report template (nat_lt 1 (length names)) clock) Holds call.options (is_headed report (nat_lt 1 (length names))) call.strips)
    (map (λ name. name.now) names) start output errors after
    → RunsOver (call_setting Holds template clock call) (map (λ name. name.now) names) output errors after
runs_as Holds template clock call report names output errors after is runs =
    subst (λ n. RunsEach (setting (says_in call.report template (nat_lt 1 n) clock) Holds call.options (is_headed call.report (nat_lt 1 n)) call.strips)
    (map (λ name. name.now) names) start output errors after) (sym (length-map names (λ name. name.now)))
    (subst (λ r. RunsEach (setting (says_in r template (nat_lt 1 (length names)) clock) Holds call.options (is_headed r (nat_lt 1 (length names))) call.strips)
    (map (λ name. name.now) names) start output errors after) (sym is) runs)
