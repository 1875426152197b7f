use Rattle.std.proofs.Common.{◌-◌, length}
use Rattle.first_pass_c.proofs.Nexts.{GoesOn}
use Rattle.first_pass_c.proofs.flat.nodes.next_index.Given as goal

-- all nodes passed so far are deeper
abbrev pub invariant-loop-at : goal.invariant-loop-at
invariant-loop-at l = GoesOn l.nodes l.depth l.from l.at

abbrev pub decreases-loop-at : goal.decreases-loop-at
decreases-loop-at l = length l.nodes - l.at
