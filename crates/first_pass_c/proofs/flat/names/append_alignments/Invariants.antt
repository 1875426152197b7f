use Rattle.std.proofs.Common.{◌≡◌, ◌++◌, take, map}
use Rattle.first_pass_c.specs.Kinds.{alignment_byte}
use Rattle.first_pass_c.proofs.flat.names.append_alignments.Given as goal

-- the columns so far are appended
abbrev pub invariant-loop-alignment : goal.invariant-loop-alignment
invariant-loop-alignment l = l.names.items ≡ l.initial.names.items ++ map alignment_byte (take l.alignment-index l.alignments)
