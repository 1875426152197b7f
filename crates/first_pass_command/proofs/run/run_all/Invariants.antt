use Rattle.std.proofs.Common.{ℕ, List, Option, map, length}
use Rattle.first_pass_host.specs.Streams.{stream_between}
use Rattle.first_pass_command.specs.Files.{RunsEach, Setting, setting, start}
use Rattle.first_pass_command.specs.declared.run.Progress.{Progress}
use Rattle.first_pass_command.proofs.run.run_all.Given as goal

-- whatever comes of the rest of the files comes of all of them
abbrev pub invariant-loop-rest : goal.invariant-loop-rest
invariant-loop-rest g l =
    let job : Setting = setting (g.P.FileReport.says l.job.report.now) (g.S.Source.holds l.job.source.now) l.job.options l.job.headed l.job.strips in
    (new tells : Option (List ℕ)) (after : Progress)
    → RunsEach job (map (λ name. name.now) l.rest) l.progress (stream_between (g.W.Write.contents l.writers.output) new)
    (stream_between (g.E.Write.contents l.writers.errors) tells) after
    → RunsEach job (map (λ name. name.now) l.fn.names) start (stream_between (g.W.Write.contents l.initial.writers.output) new)
    (stream_between (g.E.Write.contents l.initial.writers.errors) tells) after

abbrev pub decreases-loop-rest : goal.decreases-loop-rest
decreases-loop-rest g l = length l.rest
