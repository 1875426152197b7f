use Rattle.std.proofs.Common.{◌≡◌, ◌++◌, take}
use Rattle.first_pass_reports.specs.Printed.{visible}
use Rattle.first_pass_reports.proofs.printed.node.append_visible.Given as goal

-- the bytes so far are written
abbrev pub invariant-loop-byte : goal.invariant-loop-byte
invariant-loop-byte l = l.line.items ≡ l.initial.line.items ++ visible (take l.byte-index l.bytes)
