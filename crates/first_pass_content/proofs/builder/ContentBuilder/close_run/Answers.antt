use Rattle.first_pass_content.proofs.Growth.{closed_run}
use Rattle.first_pass_content.proofs.builder.ContentBuilder.close_run.Goals as goal

pub returns-clause-runs : goal.returns-clause-runs
returns-clause-runs c =
    let s = c.args.self.now in
    (closed_run c.args.text.now s.bytes.items s.runs.items s.last c.requires _ _ _ c.bytes_between.ensures c.in_ok-extend_from_slice.ensures.items
    c.in_ok-push.ensures.items c.if-last.false).runs_are

pub returns-clause-value : goal.returns-clause-value
returns-clause-value c =
    let s = c.args.self.now in
    (closed_run c.args.text.now s.bytes.items s.runs.items s.last c.requires _ _ _ c.bytes_between.ensures c.in_ok-extend_from_slice.ensures.items
    c.in_ok-push.ensures.items c.if-last.false).value
