use Rattle.std.proofs.Common.{◌+◌, drop}
use Rattle.std.proofs.lemmas.List.{drop_more}
use Rattle.first_pass_emphasis.proofs.Tokens.{is_next, went_on}
use Rattle.first_pass_emphasis.proofs.reduce.read.Goals as goal

pub read_run-requires : goal.read_run-requires
read_run-requires c =
    let n = is_next c.requires.before.0 _ (drop (c.args.i + 1) c.args.runs.now) (drop c.args.i c.args.runs.now) c.args.pass.now c.requires.before.1
    (drop_more c.args.runs.now c.args.i _ c.requires.within) in
    record { ready = (n.p, _, n.at) }

pub returns : goal.returns
returns c = λ g b.
    let n = is_next g _ (drop (c.args.i + 1) c.args.runs.now) (drop c.args.i c.args.runs.now) c.args.pass.now b
    (drop_more c.args.runs.now c.args.i _ c.requires.within) in
    went_on g _ (drop (c.args.i + 1) c.args.runs.now) c.args.pass.now c.read_run.new.pass n (c.in_ok-read_run.ensures n.p _ n.at)
