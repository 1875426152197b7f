-- The run of a call over its files (this project).
use Rattle.std.specs.Prelude.{◌≡◌, ◌==◌, ◌⊎◌, ℕ, Bool, true, false, List, [], ◌∷◌, ◌++◌, Option, None, Some, IsSomeAnd, codes, if◌then◌else◌, length}
use Rattle.std.specs.Prelude.{map, nat_lt, option_map}
use Rattle.std.specs.Option.{option_map_or}
use Rattle.first_pass_host.specs.Streams.{Stream, IsUntouched}
use Rattle.first_pass_json.specs.declared.page.Part.{Part}
use Rattle.first_pass_program.specs.FileLists.{names_in}
use Rattle.first_pass_program.specs.declared.words.call.Call.{Call}
use Rattle.first_pass_command.specs.Faults.{IsWritten, TellsFault, file_status, no_memory_line}
use Rattle.first_pass_command.specs.Files.{IsReadFault, RunsEach, Setting, setting, start}
use Rattle.first_pass_command.specs.Reports.{is_headed, says_in}
use Rattle.first_pass_command.specs.declared.fault.FileFault.{FileFault}
use Rattle.first_pass_command.specs.declared.fault.FileFault.TheVariants.{OutOfMemory}
use Rattle.first_pass_command.specs.declared.run.Progress.{Progress}

-- the names of the files that the words of a call have
abbrev pub file_names : Call → List (List ℕ)
file_names call = map (λ file. file.now) call.files.items

-- the name of the list of a call
abbrev pub list_name : Call → Option (List ℕ)
list_name call = option_map (λ list. list.now) call.list

-- the names that a call is run over: those of its words and then those of its list; without a list and without a name,
-- standard input
abbrev pub texts_of : List (List ℕ) → Option (List ℕ) → List (List ℕ)
texts_of files list = option_map_or (λ bytes. files ++ names_in bytes) list (if length files == 0 then codes "-" ∷ [] else files)

-- what the run of a call is given: which bytes a name has, the template of a page, the readings of the clock, the call,
-- and whether it has several files
abbrev pub call_setting : (List ℕ → List ℕ → Type 0) → List Part → Option (List ℕ) → Call → Bool → Setting
call_setting Holds template clock call many =
    setting (says_in call.report template many clock) Holds call.options (is_headed call.report many) call.strips

-- the run over some names, with what it is given if there are several or not
abbrev pub RunsOver : (Bool → Setting) → List (List ℕ) → Stream → Stream → Progress → Type 0
RunsOver given names output errors after = RunsEach (given (nat_lt 1 (length names))) names start output errors after

-- the bytes of a list are read under its name, if a call has a list
abbrev pub HoldsList : (List ℕ → List ℕ → Type 0) → Option (List ℕ) → Option (List ℕ) → Type 0
HoldsList Holds None bytes = bytes ≡ None
HoldsList Holds (Some name) bytes = IsSomeAnd bytes (Holds name)

-- the run over the names of a call
pub record RunsNames (given : Bool → Setting) (call : Call) (output errors : Stream) (after : Progress) : Type 0 where
  pub list : Option (List ℕ)
  pub held : HoldsList (given false).Holds (list_name call) list
  pub runs : RunsOver given (texts_of (file_names call) list) output errors after

-- the line of a fault before the first file is written, whole or not: that of the list, or that memory ran out
abbrev pub TellsFirst : Option (List ℕ) → FileFault → Bool → Stream → Type 0
TellsFirst None fault whole errors = (fault ≡ OutOfMemory) × IsWritten no_memory_line whole errors
TellsFirst (Some name) fault whole errors = TellsFault name fault whole errors

-- a fault before the first file, of a read or of memory: only its line is written
pub record FailsFirst (list : Option (List ℕ)) (output errors : Stream) (after : Progress) : Type 0 where
  pub fault : FileFault
  pub of_read : IsReadFault fault
  pub told : Bool
  pub tells : TellsFirst list fault told errors
  pub untouched : IsUntouched output
  pub after_is : after ≡ record { begun = false; worst = file_status fault; told = told; ended = true }

-- the run over the names of a call whose list, if it has one, has these bytes
abbrev pub RunsListed : (Bool → Setting) → Call → List ℕ → Stream → Stream → Progress → Type 0
RunsListed given call bytes output errors after =
    RunsOver given (texts_of (file_names call) (option_map (λ _. bytes) call.list)) output errors after ⊎ FailsFirst (list_name call) output errors after

-- the run of a call
abbrev pub RunsCall : (Bool → Setting) → Call → Stream → Stream → Progress → Type 0
RunsCall given call output errors after = RunsNames given call output errors after ⊎ FailsFirst (list_name call) output errors after
