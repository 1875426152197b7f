use Rattle.std.proofs.Common.{◌≡◌, ◌-◌, ◌^◌}
use Rattle.first_pass_program.specs.Bench.{CountsNodes}
use Rattle.first_pass_host.proofs.TimingLemmas.{SoFar}
use Rattle.first_pass_program.proofs.timed.time_runs.Given as goal

-- the runs so far
abbrev pub invariant-loop-alloc : goal.invariant-loop-alloc
invariant-loop-alloc g l =
    SoFar l.asked (g.T.TimeSource.readings l.fn.clock) (g.T.TimeSource.readings l.clock) (l.first.began, l.first.ended) l.ended l.timing.runs l.timing.nanos
    × CountsNodes l.options l.text l.timing.nodes × (l.timing.first ≡ l.first.ended - l.first.began)

abbrev pub decreases-loop-alloc : goal.decreases-loop-alloc
decreases-loop-alloc g l = 2 ^ 32 - l.timing.runs
