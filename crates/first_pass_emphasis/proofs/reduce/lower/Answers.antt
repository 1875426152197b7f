use Rattle.std.proofs.Common.{◌<◌, length, arith}
use Rattle.first_pass_emphasis.specs.Bottoms.{lowered}
use Rattle.first_pass_emphasis.proofs.Bottoms.{lower_more}
use Rattle.first_pass_emphasis.proofs.reduce.lower.Goals as goal

pub loop-i-preserved : goal.loop-i-preserved
loop-i-preserved c =
    let less : c.loop-i.i < length c.args.bottoms.now.items = omega (arith, c.loop-i.invariant.all) in
    record {
      items =
          rw (c.min.ensures)
          (lower_more (lowered c.args.height) c.args.bottoms.now.items c.loop-i.bottoms.items c.loop-i.i c.index-bottom.result.now less c.loop-i.invariant.items c.index-bottom.ensures);
      all = c.loop-i.invariant.all;
    }
