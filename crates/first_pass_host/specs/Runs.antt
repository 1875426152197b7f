-- The input and output of a run of a program over a text (this project). A program is given by a relation between
-- options, a text and the whole output for it.
use Rattle.std.specs.Prelude.{◌≡◌, ◌⊎◌, ℕ, List, String, Result, Err, OnOk, IfErr, IsUtf8}
use Rattle.std.specs.Io.KnownBytes.{Appends}
use Rattle.first_pass_items.specs.declared.option_set.Options.{Options}
use Rattle.first_pass_host.specs.declared.fault.RunFault.{RunFault}
use Rattle.first_pass_host.specs.declared.fault.RunFault.TheVariants.{OutOfMemory, NotUtf8, BadOptions, ReadFailed, WriteFailed}
use Rattle.first_pass_host.specs.OptionWord.{WordsMean}
use Rattle.first_pass_host.specs.Streams.{Stream, IsUntouched, AppendsFront, ReadsWhole}

-- the whole output for a text is written
pub record WritesOutput (Says : Options → List ℕ → List ℕ → Type 0) (options : Options) (text : List ℕ) (output : Stream) : Type 0 where
  pub whole : List ℕ
  pub says : Says options text whole
  pub appended : Appends output.old output.new whole

-- a beginning of the output for a text is written
pub record WritesFront (Says : Options → List ℕ → List ℕ → Type 0) (options : Options) (text : List ℕ) (output : Stream) : Type 0 where
  pub whole : List ℕ
  pub says : Says options text whole
  pub appended : AppendsFront output.old output.new whole

-- the effect of a fault on a writer after the text is read: if an allocation fails, nothing or a beginning of the
-- output is written; if a write fails, a beginning is
abbrev pub LeavesReport : (Options → List ℕ → List ℕ → Type 0) → RunFault → Options → List ℕ → Stream → Type 0
LeavesReport Says OutOfMemory options text output = IsUntouched output ⊎ WritesFront Says options text output
LeavesReport Says WriteFailed options text output = WritesFront Says options text output
LeavesReport Says _ options text output = ⊥

-- the effect of a fault on a writer after bytes are read: nothing is written if they are not UTF-8
abbrev pub LeavesBytes : (Options → List ℕ → List ℕ → Type 0) → RunFault → Options → List ℕ → Stream → Type 0
LeavesBytes Says NotUtf8 options bytes output = (IsUtf8 bytes → ⊥) × IsUntouched output
LeavesBytes Says fault options bytes output = IsUtf8 bytes × LeavesReport Says fault options bytes output

-- the whole output of a run with these words, over a reader and a writer, is written
pub record WritesWhole {A : Type 0} (Says : Options → List ℕ → List ℕ → Type 0) (words : List (String A)) (input output : Stream) : Type 0 where
  pub options : Options
  pub stand_for : WordsMean words options.0
  pub text : List ℕ
  pub read : ReadsWhole input.old input.new text
  pub utf8 : IsUtf8 text
  pub written : WritesOutput Says options text output

-- the effect of a fault after a text is read to its end, under the options that the words denote
pub record LeavesRead {A : Type 0} (Says : Options → List ℕ → List ℕ → Type 0) (fault : RunFault) (words : List (String A)) (input output : Stream)
    : Type 0 where
  pub options : Options
  pub stand_for : WordsMean words options.0
  pub text : List ℕ
  pub read : ReadsWhole input.old input.new text
  pub leaves : LeavesBytes Says fault options text output

-- The effect of a fault on a reader and a writer. Nothing is read if the words denote no options. Nothing is written
-- before the whole text is read.
abbrev pub FaultLeaves : {A : Type 0} → (Options → List ℕ → List ℕ → Type 0) → RunFault → List (String A) → Stream → Stream → Type 0
FaultLeaves Says BadOptions words input output = ((bits : ℕ) → WordsMean words bits → ⊥) × IsUntouched input × IsUntouched output
FaultLeaves Says ReadFailed words input output = ((bits : ℕ) × WordsMean words bits) × IsUntouched output
FaultLeaves Says OutOfMemory words input output =
    (((bits : ℕ) × WordsMean words bits) × IsUntouched output) ⊎ LeavesRead Says OutOfMemory words input output
FaultLeaves Says NotUtf8 words input output = LeavesRead Says NotUtf8 words input output
FaultLeaves Says WriteFailed words input output = LeavesRead Says WriteFailed words input output

-- the result of a run with these words over a reader and a writer
pub record Runs {A : Type 0} (Says : Options → List ℕ → List ℕ → Type 0) (words : List (String A)) (input output : Stream)
    (result : Result (Unit {0}) RunFault) : Type 0 where
  pub ok : OnOk result (WritesWhole Says words input output)
  pub fault : IfErr result (λ fault. FaultLeaves Says fault words input output)
  pub bad_options : ((bits : ℕ) → WordsMean words bits → ⊥) → result ≡ Err BadOptions
  pub options : (bits : ℕ) → WordsMean words bits → result ≡ Err BadOptions → ⊥
