use Rattle.std.proofs.Common.{◌-◌, length, string_bytes}
use Rattle.first_pass_links.proofs.Escapes.{IsWritten}
use Rattle.first_pass_links.proofs.escape.unescape_marked.Given as goal

-- the text up to here is written
abbrev pub invariant-loop-at : goal.invariant-loop-at
invariant-loop-at l = record { so_far : IsWritten l.in_table l.text l.from (string_bytes l.written) }

abbrev pub decreases-loop-at : goal.decreases-loop-at
decreases-loop-at l = length l.text - l.from
