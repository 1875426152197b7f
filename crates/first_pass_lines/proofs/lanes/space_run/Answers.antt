use Rattle.std.proofs.Common.{refl, arith}
use Rattle.first_pass_lines.proofs.Common.{zip2_splat, length-chunk, space}
use lib.Lanes.{chunk}
use Rattle.first_pass_lines.specs.Lanes.{is_space}
use Rattle.first_pass_lines.proofs.LaneLemmas.{run_in}
use Rattle.first_pass_lines.proofs.lanes.space_run.Goals as goal

pub returns : goal.returns
returns c =
    let v = chunk 0 16 c.args.bytes.now in
    let long = length-chunk 0 16 c.args.bytes.now c.requires in
    run_in is_space c.args.bytes.now 0 16 _ _ c.requires (omega arith) c.type_inv.bytes c.first_set.ensures _
    (zip2_splat _ v 16 space long) refl
