use Rattle.std.proofs.Common.{sym, subst, ◌∙◌}
use Rattle.first_pass_program.specs.Bench.{CountsNodes}
use Rattle.first_pass_host.proofs.TimingLemmas.{all_runs, first_run, next_run}
use Rattle.first_pass_program.proofs.timed.time_runs.Goals as goal

pub loop-alloc-init : goal.loop-alloc-init
loop-alloc-init g c = (first_run _ _ _ _ _ _ c.nanos-took.ensures c.in_ok-first.ensures.read, c.in_ok-first.ensures.nodes, c.nanos-took.ensures)

pub loop-alloc-preserved : goal.loop-alloc-preserved
loop-alloc-preserved g c = (
  next_run _ _ _ _ (c.in_ok-next.next.began, c.in_ok-next.next.ended) _ _ _ _
      (record { before = _; ended = c.loop-alloc.ended; so_far = c.loop-alloc.invariant.0; few = cc; read = c.in_ok-next.ensures.read })
      c.with-timing.ensures.runs c.with-timing.ensures.nanos,
  subst (CountsNodes _ _) (sym c.with-timing.ensures.nodes) c.in_ok-next.ensures.nodes,
  c.with-timing.ensures.first ∙ c.loop-alloc.invariant.2,
)

pub returns-clause-timed : goal.returns-clause-timed
returns-clause-timed g c = all_runs _ _ _ _ _ _ _ _ c.loop-alloc.invariant.0 (cc) c.loop-alloc.invariant.2
