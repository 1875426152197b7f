-- What is left written below a heading, and of the line of a fault.
use Rattle.std.proofs.Common.{◌≡◌, ℕ, List, [], Option, Result, Ok, Err, IfErr, OnErr, Bool, true, false, inl, inr, sym, refl, append-nil, true≢false}
use Rattle.std.proofs.KnownBytes.{Appends-kept, Appends-nil}
use Rattle.std.specs.Io.KnownBytes.{Appends}
use Rattle.first_pass_host.proofs.HeldLines.{front_after}
use Rattle.first_pass_host.specs.declared.fault.RunFault.{RunFault}
use Rattle.first_pass_host.specs.declared.fault.RunFault.TheVariants.{OutOfMemory, NotUtf8, BadOptions, ReadFailed, WriteFailed}
use Rattle.first_pass_host.specs.Streams.{AppendsFront, IsUntouched, Stream, stream_between}
use Rattle.first_pass_items.specs.declared.option_set.Options.{Options}
use Rattle.first_pass_host.specs.Runs.{WritesFront}
use Rattle.first_pass_command.specs.Faults.{IsWritten, Tells, TellsFault, ends_run, no_memory_line}
use Rattle.first_pass_command.specs.declared.fault.FileFault.{FileFault}
use Rattle.first_pass_command.specs.declared.fault.FileFault.TheVariants.{Unread, NotUtf8 as WrongText, OutOfMemory as NoMemory}
use Rattle.first_pass_command.specs.declared.fault.FileFault.TheVariants.{WriteFailed as FailedWrite, NoClock}
use Rattle.first_pass_command.specs.Files.{LeavesBoth}
use Rattle.first_pass_command.specs.Named.{LeavesNamed}

-- a heading and a beginning of the report
below_heading : (Says : Options → List ℕ → List ℕ → Type 0) (options : Options) (head text : List ℕ) (old mid new : Option (List ℕ))
    → Appends old mid head → WritesFront Says options text (stream_between mid new) → LeavesBoth Says options head text (stream_between old new)
below_heading Says options head text old mid new appended front =
    inr record { whole = front.whole; says = front.says; appended = front_after head front.whole old mid new appended front.appended }

-- a heading, and nothing of the report
whole_heading : (Says : Options → List ℕ → List ℕ → Type 0) (options : Options) (head text : List ℕ) (old mid new : Option (List ℕ))
    → Appends old mid head → IsUntouched (stream_between mid new) → LeavesBoth Says options head text (stream_between old new)
whole_heading Says options head text old mid new appended kept =
    inl record { written = head; left = []; split = sym (append-nil head); appended = Appends-kept old mid new head appended kept }

pub leaves_both : (Says : Options → List ℕ → List ℕ → Type 0) (options : Options) (head text : List ℕ) (old mid new : Option (List ℕ))
    (result : Result (Unit {0}) RunFault) → Appends old mid head → IfErr result (λ fault. LeavesNamed Says fault options text (stream_between mid new))
    → OnErr result (LeavesBoth Says options head text (stream_between old new))
leaves_both Says options head text old mid new (Ok x) appended leaves = tt
leaves_both Says options head text old mid new (Err OutOfMemory) appended (inl kept) = whole_heading Says options head text old mid new appended kept
leaves_both Says options head text old mid new (Err OutOfMemory) appended (inr front) = below_heading Says options head text old mid new appended front
leaves_both Says options head text old mid new (Err WriteFailed) appended front = below_heading Says options head text old mid new appended front
leaves_both Says options head text old mid new (Err NotUtf8) appended bad = absurd bad
leaves_both Says options head text old mid new (Err BadOptions) appended bad = absurd bad
leaves_both Says options head text old mid new (Err ReadFailed) appended kept = whole_heading Says options head text old mid new appended kept

-- all of a text is a beginning of it
front_of_written : (line : List ℕ) (whole : Bool) (errors : Stream) → IsWritten line whole errors → AppendsFront errors.old errors.new line
front_of_written line true errors appended = record { written = line; left = []; split = sym (append-nil line); appended = appended }
front_of_written line false errors front = front

-- the line of a fault, whole or not
pub tells_fault : (name : List ℕ) (fault : FileFault) (whole : Bool) (errors : Stream) → TellsFault name fault whole errors → Tells name fault whole errors
tells_fault name (Unread error) whole errors tells = tells
tells_fault name (WrongText offset place) whole errors tells = tells
tells_fault name NoMemory whole errors tells = tells
tells_fault name NoClock whole errors tells = tells
tells_fault name FailedWrite whole errors tells = (tells.line, tells.line_is, front_of_written tells.line whole errors tells.written)

-- after a failed write the line may be left out
pub tells_nothing : (name : List ℕ) (fault : FileFault) (whole : Bool) (old : Option (List ℕ)) → ends_run fault ≡ true
    → Tells name fault whole (stream_between old old)
tells_nothing name FailedWrite whole old ends =
    (no_memory_line, inr refl, record { written = []; left = _; split = refl; appended = Appends-nil old })
tells_nothing name (Unread error) whole old ends = absurd (true≢false (sym ends))
tells_nothing name (WrongText offset place) whole old ends = absurd (true≢false (sym ends))
tells_nothing name NoMemory whole old ends = absurd (true≢false (sym ends))
tells_nothing name NoClock whole old ends = absurd (true≢false (sym ends))
