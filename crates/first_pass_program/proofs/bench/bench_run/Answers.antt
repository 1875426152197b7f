use Rattle.std.proofs.Common.{sym, subst}
use Rattle.first_pass_host.specs.Streams.{ReadsWhole}
use Rattle.first_pass_program.proofs.FaultLemmas.{if_leaves_read}
use Rattle.first_pass_program.proofs.bench.bench_run.Goals as goal

pub returns-clause-fault : goal.returns-clause-fault
returns-clause-fault g c =
    if_leaves_read _ _ _ _ c.in-Some.task c.in-Some.ensures.some _ (subst
    (ReadsWhole (g.R.Read.remaining c.args.input.now) (g.R.Read.remaining c.read_whole.new.input)) (sym c.as_slice.ensures.value) c.in_ok-bytes.ensures.ok) _
    c.report_text.ensures.fault
