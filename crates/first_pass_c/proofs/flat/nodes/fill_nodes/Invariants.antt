use Rattle.std.proofs.Common.{◌≡◌}
use Rattle.first_pass_names.specs.TableEntries.{names_of}
use Rattle.first_pass_c.specs.Linked.{depth_at}
use Rattle.first_pass_c.proofs.Filling.{AreFilled}
use Rattle.first_pass_c.proofs.flat.nodes.fill_nodes.Given as goal

-- the records from the place on are written
abbrev pub invariant-loop-place : goal.invariant-loop-place
invariant-loop-place l = AreFilled (names_of l.allocs) l.nodes l.flat l.place × (l.later_depth ≡ depth_at l.nodes l.place.node)

abbrev pub decreases-loop-place : goal.decreases-loop-place
decreases-loop-place l = l.place.node
