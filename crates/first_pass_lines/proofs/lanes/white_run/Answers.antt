use Rattle.std.proofs.Common.{ℕ, bit_and, refl, arith}
use Rattle.first_pass_lines.proofs.Common.{zip2_splat, length-chunk, tab, line_tabulation, form_feed, space, is_white}
use lib.Lanes.{chunk}
use Rattle.first_pass_lines.proofs.LaneLemmas.{joined, run_in}
use Rattle.first_pass_lines.proofs.lanes.white_run.Goals as goal

pub returns : goal.returns
returns c =
    let v = chunk c.args.at 16 c.args.bytes.now in
    let long = length-chunk c.args.at 16 c.args.bytes.now c.requires in
    run_in is_white c.args.bytes.now c.args.at 16 _ _ c.requires (omega arith) c.type_inv.bytes c.first_set.ensures _
    (joined bit_and _ _ v (joined bit_and _ _ v (joined bit_and _ _ v (zip2_splat {Y = ℕ} _ v 16 tab long) (zip2_splat {Y = ℕ} _ v 16 line_tabulation long))
    (zip2_splat {Y = ℕ} _ v 16 form_feed long)) (zip2_splat {Y = ℕ} _ v 16 space long)) refl
