-- The bytes read from a reader and written to a writer, and the faults of both (this project).
use Rattle.std.specs.Prelude.{◌≡◌, ◌⊎◌, ℕ, List, ◌++◌, Option, Result, OnOk, OnErr, IfErr}
use Rattle.std.specs.Io.KnownBytes.{Appends, Consumes, IsAtEnd, Keeps}
use Rattle.first_pass_host.specs.declared.fault.RunFault.{RunFault}
use Rattle.first_pass_host.specs.declared.fault.RunFault.TheVariants.{OutOfMemory, ReadFailed, WriteFailed}

-- what is known of a stream at two moments: the remaining bytes of a reader, the contents of a writer, or the
-- remaining readings of a clock
pub record Stream : Type 0 where
  pub old : Option (List ℕ)
  pub new : Option (List ℕ)

-- a stream from its old and its new known contents
abbrev pub stream_between : Option (List ℕ) → Option (List ℕ) → Stream
stream_between old new = record { old = old; new = new }

-- nothing is read from the stream or written to it
abbrev pub IsUntouched : Stream → Type 0
IsUntouched stream = Keeps stream.old stream.new

-- known bytes grow by a beginning of a text, which may be empty
pub record AppendsFront (old new : Option (List ℕ)) (text : List ℕ) : Type 0 where
  pub written : List ℕ
  pub left : List ℕ
  pub split : text ≡ written ++ left
  pub appended : Appends old new written

-- a text is read from a reader, up to the reader's end
abbrev pub ReadsWhole : Option (List ℕ) → Option (List ℕ) → List ℕ → Type 0
ReadsWhole old new text = Consumes old new text × IsAtEnd new

-- a fault of the reads
abbrev pub IsReadFault : RunFault → Type 0
IsReadFault fault = (fault ≡ ReadFailed) ⊎ (fault ≡ OutOfMemory)

-- a fault of the writes
abbrev pub IsWriteFault : RunFault → Type 0
IsWriteFault fault = (fault ≡ WriteFailed) ⊎ (fault ≡ OutOfMemory)

-- a text is written to an output; or a fault ends the writes, and a beginning of the text is written
pub record WritesText (text : List ℕ) (output : Stream) (result : Result (Unit {0}) RunFault) : Type 0 where
  pub ok : OnOk result (Appends output.old output.new text)
  pub front : OnErr result (AppendsFront output.old output.new text)
  pub fault : IfErr result IsWriteFault
