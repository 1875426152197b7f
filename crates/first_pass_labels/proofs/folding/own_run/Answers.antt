use Rattle.std.proofs.Common.{ℕ, ◌≤◌, leb, cond, bit_or, refl, arith}
use Rattle.std.proofs.lemmas.Simd.{zip2_splat, zip2_splat_left, length-chunk}
use lib.Lanes.{chunk}
use Rattle.first_pass_lines.proofs.LaneLemmas.{joined, splat_is, run_in}
use Rattle.first_pass_labels.specs.Foldings.{folds_to_itself}
use Rattle.first_pass_labels.proofs.folding.own_run.Goals as goal

pub returns : goal.returns
returns c =
    let few : 16 ≤ 64 = omega arith in
    let v = chunk 0 16 c.args.bytes.now in
    let long = length-chunk 0 16 c.args.bytes.now c.requires in
    let capitals = joined _ _ _ v (zip2_splat {Y = ℕ} _ v 16 65 long) (splat_is v 16 26 long) in
    let others = zip2_splat_left {X = ℕ} (λ a b. cond (leb a b) 255 0) 128 16 v long in
    run_in folds_to_itself c.args.bytes.now 0 16 _ _ c.requires few c.type_inv.bytes c.first_set.ensures _ (joined bit_or _ _ v capitals others) refl
