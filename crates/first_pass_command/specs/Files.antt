-- The run of a report over several files (this project).
use Rattle.std.specs.Prelude.{◌≡◌, ◌⊎◌, ◌&&◌, ℕ, max, nat_eq, Bool, true, false, if◌then◌else◌, List, [], ◌∷◌, ◌++◌, drop, Option, Result, IfOk}
use Rattle.std.specs.Prelude.{IfErr, IsUtf8, codes, ⊤}
use Rattle.std.specs.List.{starts_with}
use Rattle.std.specs.Io.KnownBytes.{Appends}
use Rattle.std.specs.Str.Lossy.{utf8_valid_len}
use Rattle.first_pass_host.specs.Streams.{Stream, stream_between, IsUntouched, AppendsFront}
use Rattle.first_pass_items.specs.declared.option_set.Options.{Options}
use Rattle.first_pass_places.specs.LineColumns.{line_column}
use Rattle.first_pass_places.specs.declared.line_column.LineColumn.{LineColumn}
use Rattle.first_pass_command.specs.Faults.{Tells, TellsName, Warns, ends_run, file_status, shown}
use Rattle.first_pass_command.specs.declared.run.Progress.{Progress}
use Rattle.first_pass_command.specs.declared.fault.FileFault.{FileFault}
use Rattle.first_pass_command.specs.declared.fault.FileFault.TheVariants.{Unread, NotUtf8, OutOfMemory, WriteFailed, NoClock}

-- what a run over files is given: the relation between the name of a file, options, its text and the whole report on
-- it; the relation between a name and the bytes that are read under it; the options; whether files have headings; and
-- whether a byte order mark is left out
pub record Setting : Type 1 where
  pub Says : List ℕ → Options → List ℕ → List ℕ → Type 0
  pub Holds : List ℕ → List ℕ → Type 0
  pub options : Options
  pub headed : Bool
  pub strips : Bool

-- a setting of these
abbrev pub setting : (List ℕ → Options → List ℕ → List ℕ → Type 0) → (List ℕ → List ℕ → Type 0) → Options → Bool → Bool → Setting
setting Says Holds options headed strips = record { Says = Says; Holds = Holds; options = options; headed = headed; strips = strips }

-- the bytes of a byte order mark
abbrev pub mark : List ℕ
mark = 239 ∷ 187 ∷ 191 ∷ []

-- whether bytes begin with a byte order mark
abbrev pub has_mark : List ℕ → Bool
has_mark bytes = starts_with nat_eq bytes mark

-- the text of the bytes of a file: without a byte order mark at its start, if that is left out
abbrev pub text_in : Bool → List ℕ → List ℕ
text_in strips bytes = if strips && has_mark bytes then drop 3 bytes else bytes

-- the heading above the report on a file, after an empty line if there was a report before
abbrev pub heading : Bool → Bool → List ℕ → List ℕ
heading headed begun name = if headed then (if begun then 10 ∷ [] else []) ++ (codes "==> " ++ (shown name ++ (codes " <==" ++ (10 ∷ [])))) else []

-- a heading and the whole report on a text are written
pub record WritesBoth (Says : Options → List ℕ → List ℕ → Type 0) (options : Options) (head text : List ℕ) (output : Stream) : Type 0 where
  pub whole : List ℕ
  pub says : Says options text whole
  pub appended : Appends output.old output.new (head ++ whole)

-- a beginning of them is written
pub record WritesBothFront (Says : Options → List ℕ → List ℕ → Type 0) (options : Options) (head text : List ℕ) (output : Stream) : Type 0 where
  pub whole : List ℕ
  pub says : Says options text whole
  pub appended : AppendsFront output.old output.new (head ++ whole)

-- a beginning of the heading, which may be empty or all of it, or of the heading and the report
abbrev pub LeavesBoth : (Options → List ℕ → List ℕ → Type 0) → Options → List ℕ → List ℕ → Stream → Type 0
LeavesBoth Says options head text output = AppendsFront output.old output.new head ⊎ WritesBothFront Says options head text output

-- a text is read, and what the last argument says of it holds
pub record Reads (s : Setting) (name : List ℕ) (P : List ℕ → Type 0) : Type 0 where
  pub bytes : List ℕ
  pub holds : s.Holds name bytes
  pub utf8 : IsUtf8 (text_in s.strips bytes)
  pub rest : P (text_in s.strips bytes)

-- a text is read that is not UTF-8, and these are the offset, the line and the column of its first wrong byte
pub record IsWrongAt (s : Setting) (name : List ℕ) (offset : ℕ) (place : LineColumn) : Type 0 where
  pub bytes : List ℕ
  pub holds : s.Holds name bytes
  pub wrong : IsUtf8 (text_in s.strips bytes) → ⊥
  pub at : offset ≡ utf8_valid_len (text_in s.strips bytes)
  pub placed : place ≡ line_column (text_in s.strips bytes) offset

-- a fault of a read
abbrev pub IsReadFault : FileFault → Type 0
IsReadFault (Unread error) = ⊤
IsReadFault OutOfMemory = ⊤
IsReadFault _ = ⊥

-- what a fault of a file says, and leaves written
abbrev pub FileLeaves : Setting → Bool → List ℕ → Stream → FileFault → Type 0
FileLeaves s begun name output (Unread error) = IsUntouched output
FileLeaves s begun name output (NotUtf8 offset place) = IsWrongAt s name offset place × IsUntouched output
FileLeaves s begun name output OutOfMemory =
    IsUntouched output ⊎ Reads s name (λ text. LeavesBoth (s.Says name) s.options (heading s.headed begun name) text output)
FileLeaves s begun name output WriteFailed = Reads s name (λ text. LeavesBoth (s.Says name) s.options (heading s.headed begun name) text output)
FileLeaves s begun name output NoClock = Reads s name (λ text. LeavesBoth (s.Says name) s.options (heading s.headed begun name) text output)

-- the result of a run over a file: whether its text begins with a byte order mark, or a fault
pub record RunsFile (s : Setting) (begun : Bool) (name : List ℕ) (output : Stream) (result : Result Bool FileFault) : Type 0 where
  pub ok : IfOk result (λ marked. Reads s name (λ text.
      (marked ≡ has_mark text) × WritesBoth (s.Says name) s.options (heading s.headed begun name) text output))
  pub fault : IfErr result (FileLeaves s begun name output)

-- before the first file no report is written, the status is 0, and no line is missing
abbrev pub start : Progress
start = record { begun = false; worst = 0; told = true; ended = false }

-- A run over a file, and how far the run over all files has come before and after it. After a report the line of a byte
-- order mark is written if there is one, after a fault its line; each whole if `told`. The status of a fault counts.
pub record Steps (s : Setting) (name : List ℕ) (before : Progress) (output errors : Stream) (after : Progress) : Type 0 where
  pub result : Result Bool FileFault
  pub runs : RunsFile s before.begun name output result
  pub told : Bool
  pub ok : IfOk result (λ marked. Warns name marked told errors × (after ≡ record before { begun = true; told = before.told && told }))
  pub fault : IfErr result (λ f. Tells name f told errors
      × (after ≡ record { begun = before.begun; worst = max before.worst (file_status f); told = before.told && told; ended = ends_run f }))

-- a name that is not UTF-8: the line of this fault is written, whole if `told`, and its status counts
pub record Skips (name : List ℕ) (before : Progress) (output errors : Stream) (after : Progress) : Type 0 where
  pub told : Bool
  pub tells : TellsName name told errors
  pub untouched : IsUntouched output
  pub after_is : after ≡ record before { worst = max before.worst 2; told = before.told && told }

-- a run over the file of a name, if that is UTF-8
pub record StepsName (s : Setting) (name : List ℕ) (before : Progress) (output errors : Stream) (after : Progress) : Type 0 where
  pub text : IsUtf8 name → Steps s name before output errors after
  pub other : (IsUtf8 name → ⊥) → Skips name before output errors after

-- the first where the truth value is true, otherwise the second
abbrev pub Either : Bool → Type 0 → Type 0 → Type 0
Either true A B = A
Either false A B = B

-- a run over files ends: nothing more is written
abbrev pub Ends : Progress → Stream → Stream → Progress → Type 0
Ends before output errors after = IsUntouched output × IsUntouched errors × (after ≡ before)

-- the run over files, one after the other, up to the last or to one that ends the run
abbrev pub RunsEach : Setting → List (List ℕ) → Progress → Stream → Stream → Progress → Type 0
RunsEach s [] before output errors after = Ends before output errors after
RunsEach s (name ∷ more) before output errors after =
    (middle : Option (List ℕ)) × (half : Option (List ℕ)) × (next : Progress)
    × StepsName s name before (stream_between output.old middle) (stream_between errors.old half) next
    × Either next.ended (Ends next (stream_between middle output.new) (stream_between half errors.new) after)
    (RunsEach s more next (stream_between middle output.new) (stream_between half errors.new) after)
