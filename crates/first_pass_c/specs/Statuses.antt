-- The statuses of faults (this project).
use Rattle.std.specs.Prelude.{ℕ}
use Rattle.first_pass_c.specs.declared.fault.Fault.{Fault}
use Rattle.first_pass_c.specs.declared.fault.Fault.TheVariants.{OutOfMemory, NotUtf8, BadOptions, TooSmall, TooLong}

-- the status of a fault in other languages; 0 is success (this project)
abbrev pub status_of : Fault → ℕ
status_of OutOfMemory = 1
status_of NotUtf8 = 2
status_of BadOptions = 3
status_of TooSmall = 4
status_of TooLong = 5
