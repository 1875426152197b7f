use Rattle.std.proofs.Common.{ℕ, leb, cond, bit_and, refl, arith}
use Rattle.std.proofs.lemmas.Simd.{zip2_splat, length-chunk}
use lib.Lanes.{chunk}
use Rattle.first_pass_links.specs.Plain.{is_ordinary}
use Rattle.first_pass_lines.proofs.LaneLemmas.{joined, splat_is, run_in}
use Rattle.first_pass_links.proofs.plain.plain_lanes.Goals as goal

pub returns : goal.returns
returns c =
    let v = chunk 0 16 c.args.bytes.now in
    let long = length-chunk 0 16 c.args.bytes.now c.requires in
    let past = λ (a b : ℕ). cond (leb a b) 255 0 in
    let capitals = joined past _ _ v (splat_is v 16 49 long) (zip2_splat {Y = ℕ} _ v 16 42 long) in
    let letters = joined past _ _ v (splat_is v 16 33 long) (zip2_splat {Y = ℕ} _ v 16 94 long) in
    run_in is_ordinary c.args.bytes.now 0 16 _ _ c.requires (omega arith) c.type_inv.bytes c.first_set.ensures _ (joined bit_and _ _ v capitals letters) refl
