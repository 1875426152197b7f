use Rattle.std.proofs.Common.{◌≡◌, List, ℕ, ◌++◌, length}
use Rattle.std.specs.Io.KnownBytes.{Appends}
use Rattle.first_pass_host.proofs.output.write_whole.Given as goal

-- the bytes that are no longer in the rest were written
abbrev pub invariant-loop-rest : goal.invariant-loop-rest
invariant-loop-rest g l = (done : List ℕ) × (l.fn.bytes ≡ done ++ l.rest) × Appends (g.W.Write.contents l.initial.output) (g.W.Write.contents l.output) done

abbrev pub decreases-loop-rest : goal.decreases-loop-rest
decreases-loop-rest g l = length l.rest
