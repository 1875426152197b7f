use Rattle.std.proofs.Common.{◌-◌, length}
use Rattle.first_pass_links.proofs.Escapes.{IsKept}
use Rattle.first_pass_links.proofs.escape.next_change.Given as goal

-- the bytes up to here are kept
abbrev pub invariant-loop-plain : goal.invariant-loop-plain
invariant-loop-plain l = record { kept : IsKept l.in_table l.bytes l.from l.at }

abbrev pub decreases-loop-plain : goal.decreases-loop-plain
decreases-loop-plain l = length l.bytes - l.at
