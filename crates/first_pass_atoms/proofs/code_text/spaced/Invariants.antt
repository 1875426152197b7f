use Rattle.std.proofs.Common.{◌≡◌, take, map}
use Rattle.first_pass_atoms.specs.CodeText.{spaced_byte}
use Rattle.first_pass_atoms.proofs.code_text.spaced.Given as goal

-- the bytes so far are in the copy
abbrev pub invariant-loop-byte : goal.invariant-loop-byte
invariant-loop-byte l = l.made.items ≡ map spaced_byte (take l.byte-index l.bytes)
