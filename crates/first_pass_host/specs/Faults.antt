-- The messages of the program `blocks` for its faults, and its exit status (this project).
use Rattle.std.specs.Prelude.{ℕ, List, codes}
use Rattle.first_pass_host.specs.declared.fault.RunFault.{RunFault}
use Rattle.first_pass_host.specs.declared.fault.RunFault.TheVariants.{OutOfMemory, NotUtf8, BadOptions, ReadFailed, WriteFailed}

-- the line on standard error, without its newline
abbrev pub message_of : RunFault → List ℕ
message_of OutOfMemory = codes "out of memory"
message_of NotUtf8 = codes "not UTF-8"
message_of BadOptions = codes "bad options"
message_of ReadFailed = codes "read failed"
message_of WriteFailed = codes "write failed"

-- 1 if an allocation failed, otherwise 2
abbrev pub status_of : RunFault → ℕ
status_of OutOfMemory = 1
status_of _ = 2
