use Rattle.std.proofs.Common.{◌+◌, ◌<◌, length, arith}
use Rattle.std.proofs.lemmas.List.Edits.{fill_from_more}
use Rattle.first_pass_emphasis.proofs.reduce.write.Goals as goal

pub loop-i-preserved : goal.loop-i-preserved
loop-i-preserved c =
    let less : c.args.at + c.loop-i.i < length c.args.roles.now.items = omega (arith, c.requires) in
    rw c.loop-i.invariant (fill_from_more c.args.roles.now.items c.args.at c.loop-i.i c.args.role less)
