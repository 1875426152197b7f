use Rattle.std.proofs.Common.{◌≡◌, replicate}
use Rattle.std.proofs.Math.Seq.{paste}
use Rattle.first_pass_emphasis.proofs.reduce.write.Given as goal

abbrev pub invariant-loop-i : goal.invariant-loop-i
invariant-loop-i l = l.roles.items ≡ paste l.fn.roles.items l.at (replicate l.i l.role) l.i
