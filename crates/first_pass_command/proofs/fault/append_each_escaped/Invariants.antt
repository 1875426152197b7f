use Rattle.std.proofs.Common.{◌≡◌, ◌++◌, take}
use Rattle.std.specs.List.{flat_map}
use Rattle.first_pass_command.specs.Faults.{escaped_byte}
use Rattle.first_pass_command.proofs.fault.append_each_escaped.Given as goal

-- the bytes so far are appended
abbrev pub invariant-loop-byte : goal.invariant-loop-byte
invariant-loop-byte l = l.line.items ≡ l.initial.line.items ++ flat_map escaped_byte (take l.byte-index l.name)
