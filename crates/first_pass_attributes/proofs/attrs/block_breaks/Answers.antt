use Rattle.std.proofs.Common.{ℕ, bit_or, refl, arith}
use Rattle.std.proofs.lemmas.Simd.{zip2_splat, length-chunk}
use lib.Lanes.{chunk}
use Rattle.first_pass_attributes.specs.AttributeBlocks.{is_inside_block}
use Rattle.first_pass_lines.proofs.LaneLemmas.{joined}
use Rattle.first_pass_lines.proofs.MaskLemmas.{mask_within, mask_stops}
use Rattle.first_pass_attributes.proofs.attrs.block_breaks.Goals as goal

pub returns : goal.returns
returns c =
    let v = chunk c.args.at 16 c.args.bytes.now in
    let long = length-chunk c.args.at 16 c.args.bytes.now c.requires in
    let braces = joined bit_or _ _ v (zip2_splat {Y = ℕ} _ v 16 123 long) (zip2_splat {Y = ℕ} _ v 16 125 long) in
    let angles = joined bit_or _ _ v (zip2_splat {Y = ℕ} _ v 16 60 long) (zip2_splat {Y = ℕ} _ v 16 62 long) in
    let ends = joined bit_or _ _ v (zip2_splat {Y = ℕ} _ v 16 10 long) (zip2_splat {Y = ℕ} _ v 16 13 long) in
    let lanes = joined bit_or _ _ v (joined bit_or _ _ v (joined bit_or _ _ v braces angles) ends) (zip2_splat {Y = ℕ} _ v 16 92 long) in
    record {
      within = mask_within is_inside_block c.args.bytes.now c.args.at 16 _ c.requires (omega arith) c.type_inv.bytes _ lanes;
      breaks = mask_stops is_inside_block c.args.bytes.now c.args.at 16 _ c.requires (omega arith) c.type_inv.bytes _ lanes refl;
    }
