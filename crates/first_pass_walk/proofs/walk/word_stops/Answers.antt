use Rattle.std.proofs.Common.{ℕ, leb, cond, bit_and, refl, arith}
use Rattle.first_pass_walk.proofs.Common.{is_passed}
use Rattle.std.proofs.lemmas.Simd.{zip2_splat, length-chunk}
use lib.Lanes.{chunk}
use Rattle.first_pass_lines.proofs.LaneLemmas.{joined, splat_is}
use Rattle.first_pass_lines.proofs.MaskLemmas.{mask_within, mask_stops}
use Rattle.first_pass_walk.proofs.walk.word_stops.Goals as goal

pub returns : goal.returns
returns c =
    let v = chunk c.args.at 16 c.args.bytes.now in
    let long = length-chunk c.args.at 16 c.args.bytes.now c.requires in
    let small = zip2_splat {Y = ℕ} _ v 16 32 long in
    let after_space = joined _ _ _ v (joined _ _ _ v small (splat_is v 16 33 long)) (splat_is v 16 95 long) in
    let no_letter = joined (λ a b. cond (leb a b) 255 0) _ _ v (splat_is v 16 26 long) (joined _ _ _ v small (splat_is v 16 97 long)) in
    let lanes = joined bit_and _ _ v after_space no_letter in
    record {
      within = mask_within is_passed c.args.bytes.now c.args.at 16 _ c.requires (omega arith) c.type_inv.bytes _ lanes;
      stops = mask_stops is_passed c.args.bytes.now c.args.at 16 _ c.requires (omega arith) c.type_inv.bytes _ lanes refl;
    }
