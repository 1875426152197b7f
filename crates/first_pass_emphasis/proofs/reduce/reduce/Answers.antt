use Rattle.std.proofs.Common.{◌∙◌, drop, arith}
use Rattle.std.proofs.lemmas.List.{drop_all}
use Rattle.first_pass_emphasis.specs.Pieces.{Begin, Plain, followed_by}
use Rattle.first_pass_emphasis.proofs.Outside.{outside_same}
use Rattle.first_pass_emphasis.proofs.Tokens.{is_last}
use Rattle.first_pass_emphasis.proofs.reduce.reduce.Goals as goal

pub returns : goal.returns
returns c = λ outside ts h.
    is_last (followed_by (Plain Begin outside) ts) (drop c.loop-i.i c.args.runs.now) c.loop-i.pass (c.loop-i.invariant outside ts h)
    (drop_all c.loop-i.i c.args.runs.now (omega arith))
    ∙ outside_same outside ts
