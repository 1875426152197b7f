use Rattle.std.proofs.Common.{length}
use Rattle.first_pass_blocks.proofs.BlockRead.{ReachesPlace}
use Rattle.first_pass_blocks.proofs.state.BlockPass.parse_containers.Given as goal

-- the containers that begin before this place are open
abbrev pub invariant-loop-place : goal.invariant-loop-place
invariant-loop-place l = ReachesPlace l.fn.place l.fn.self l.self l.place

abbrev pub decreases-loop-place : goal.decreases-loop-place
decreases-loop-place l = length l.place.rest.left
