-- The lines of the faults of files, and their statuses (this project).
use Rattle.std.specs.Prelude.{◌≡◌, ◌==◌, ◌⊎◌, ◌&&◌, ℕ, ◌+◌, ◌/◌, ◌%◌, Bool, true, false, not, if◌then◌else◌, List, [], ◌∷◌, ◌++◌, codes, decimal}
use Rattle.std.specs.Prelude.{nat_le, nat_lt}
use Rattle.std.specs.List.{flat_map, list_any}
use Rattle.std.specs.Str.{bytes_eq}
use Rattle.std.specs.Io.KnownBytes.{Appends}
use Rattle.first_pass_host.specs.Streams.{Stream, AppendsFront, IsUntouched}
use Rattle.first_pass_host.specs.declared.fault.RunFault.{RunFault}
use Rattle.first_pass_host.specs.declared.fault.RunFault.TheVariants.{OutOfMemory, ReadFailed}
use Rattle.first_pass_json.specs.JsonValues.{json_string}
use Rattle.first_pass_places.specs.declared.line_column.LineColumn.{LineColumn}
use Rattle.first_pass_command.specs.declared.fault.FileFault.{FileFault}
use Rattle.first_pass_command.specs.declared.fault.FileFault.TheVariants.{Unread, NotUtf8, OutOfMemory as NoMemory, WriteFailed, NoClock}

-- the fault of a file whose report ends with a fault
abbrev pub file_fault : RunFault → FileFault
file_fault OutOfMemory = NoMemory
file_fault ReadFailed = NoClock
file_fault _ = WriteFailed

-- 1 if memory ran out, otherwise 2
abbrev pub file_status : FileFault → ℕ
file_status NoMemory = 1
file_status _ = 2

-- a word of the call: one with a control character of ASCII below the space is a string of JSON
abbrev pub shown_word : List ℕ → List ℕ
shown_word word = if list_any (λ b. nat_lt b 32) word then json_string word else word

-- the name of a file in a heading or a fault: `-` is standard input
abbrev pub shown : List ℕ → List ℕ
shown name = if bytes_eq name (codes "-") then codes "standard input" else shown_word name

-- the words that a text is not UTF-8: the offset of its first wrong byte, and the line and the column of that
abbrev pub wrong_at : ℕ → LineColumn → List ℕ
wrong_at offset place =
    codes "not UTF-8: byte " ++ (decimal offset ++ (codes ", line " ++ (decimal place.line ++ (codes ", column " ++ decimal place.column))))

-- bytes grow by some others
abbrev pub Grows : List ℕ → List ℕ → Type 0
Grows old new = (more : List ℕ) × (new ≡ old ++ more)

-- bytes grow by what a fault says; of a failed read that is the system's to say
abbrev pub AppendsReason : FileFault → List ℕ → List ℕ → Type 0
AppendsReason (Unread error) old new = Grows old new
AppendsReason (NotUtf8 offset place) old new = new ≡ old ++ wrong_at offset place
AppendsReason NoMemory old new = new ≡ old ++ codes "out of memory"
AppendsReason WriteFailed old new = new ≡ old ++ codes "write failed"
AppendsReason NoClock old new = new ≡ old ++ codes "the clock can't be read"

-- bytes, followed by the program's name and that of a file
abbrev pub fault_front : List ℕ → List ℕ → List ℕ
fault_front old name = ((old ++ codes "first_pass: ") ++ shown name) ++ codes ": "

-- bytes grow by the line of a fault of a file
abbrev pub AppendsFault : List ℕ → FileFault → List ℕ → List ℕ → Type 0
AppendsFault name fault old new = (line : List ℕ) × AppendsReason fault (fault_front old name) line × (new ≡ line ++ codes "\n")

-- the line that memory for another line ran out
abbrev pub no_memory_line : List ℕ
no_memory_line = codes "first_pass: out of memory\n"

-- the line of a fault of a file, or that memory for it ran out
abbrev pub IsFaultLine : List ℕ → FileFault → List ℕ → Type 0
IsFaultLine name fault line = AppendsFault name fault [] line ⊎ (line ≡ no_memory_line)

-- a text is written whole, or a beginning of it is
abbrev pub IsWritten : List ℕ → Bool → Stream → Type 0
IsWritten text true output = Appends output.old output.new text
IsWritten text false output = AppendsFront output.old output.new text

-- the line of a fault of a file is written, whole or not
pub record TellsFault (name : List ℕ) (fault : FileFault) (whole : Bool) (errors : Stream) : Type 0 where
  pub line : List ℕ
  pub line_is : IsFaultLine name fault line
  pub written : IsWritten line whole errors

-- the same, but after a failed write the line may be left out, or be cut short
abbrev pub Tells : List ℕ → FileFault → Bool → Stream → Type 0
Tells name WriteFailed whole errors = (line : List ℕ) × IsFaultLine name WriteFailed line × AppendsFront errors.old errors.new line
Tells name fault whole errors = TellsFault name fault whole errors

-- whether a fault of a file ends the run over the files: a failed write does
abbrev pub ends_run : FileFault → Bool
ends_run WriteFailed = true
ends_run _ = false

-- bytes, followed by the line that the text of a file begins with a byte order mark
abbrev pub mark_line : List ℕ → List ℕ → List ℕ
mark_line old name = fault_front old name ++ codes "begins with a byte order mark; --strip-bom leaves it out\n"

-- a line is this one, or that memory for it ran out; it is written, whole or not
pub record TellsLine (wanted : List ℕ) (whole : Bool) (errors : Stream) : Type 0 where
  pub line : List ℕ
  pub line_is : (line ≡ wanted) ⊎ (line ≡ no_memory_line)
  pub written : IsWritten line whole errors

-- the line of a byte order mark at the start of a text is written, if there is one
abbrev pub Warns : List ℕ → Bool → Bool → Stream → Type 0
Warns name true whole errors = TellsLine (mark_line [] name) whole errors
Warns name false whole errors = (whole ≡ true) × IsUntouched errors

-- a digit of base 16
abbrev pub hex_digit : ℕ → ℕ
hex_digit n = if nat_lt n 10 then 48 + n else 55 + n

-- a byte of a name that is not UTF-8: itself if it is printable ASCII but no backslash
abbrev pub escaped_byte : ℕ → List ℕ
escaped_byte b = if nat_le 32 b && (nat_lt b 127 && not (b == 92)) then b ∷ [] else codes "\\x" ++ (hex_digit (b / 16) ∷ hex_digit (b % 16) ∷ [])

-- bytes, followed by the line that a name is not UTF-8
abbrev pub name_line : List ℕ → List ℕ → List ℕ
name_line old name = ((old ++ codes "first_pass: ") ++ flat_map escaped_byte name) ++ codes ": the name is not UTF-8\n"

-- the line that a name is not UTF-8 is written, whole or not
abbrev pub TellsName : List ℕ → Bool → Stream → Type 0
TellsName name whole errors = TellsLine (name_line [] name) whole errors
