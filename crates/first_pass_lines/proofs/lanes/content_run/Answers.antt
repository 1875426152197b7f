use Rattle.std.proofs.Common.{ℕ, bit_or, refl, arith}
use Rattle.first_pass_lines.proofs.Common.{zip2_splat, length-chunk, line_feed, carriage_return, is_content}
use lib.Lanes.{chunk}
use Rattle.first_pass_lines.proofs.LaneLemmas.{joined, run_in}
use Rattle.first_pass_lines.proofs.lanes.content_run.Goals as goal

pub returns : goal.returns
returns c =
    let v = chunk c.args.at 16 c.args.bytes.now in
    let long = length-chunk c.args.at 16 c.args.bytes.now c.requires in
    run_in is_content c.args.bytes.now c.args.at 16 _ _ c.requires (omega arith) c.type_inv.bytes c.first_set.ensures _
    (joined bit_or _ _ v (zip2_splat {Y = ℕ} _ v 16 line_feed long) (zip2_splat {Y = ℕ} _ v 16 carriage_return long)) refl
