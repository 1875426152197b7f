use Rattle.std.proofs.Common.{ℕ, refl, arith}
use Rattle.std.proofs.lemmas.Simd.{zip2_splat, length-chunk}
use lib.Lanes.{chunk}
use Rattle.first_pass_items.specs.Bytes.{space}
use Rattle.first_pass_attributes.specs.Attributes.{is_solid}
use Rattle.first_pass_lines.proofs.LaneLemmas.{run_in}
use Rattle.first_pass_attributes.proofs.words.solid_run.Goals as goal

pub returns : goal.returns
returns c =
    let v = chunk 0 16 c.args.bytes.now in
    let long = length-chunk 0 16 c.args.bytes.now c.requires in
    run_in is_solid c.args.bytes.now 0 16 _ _ c.requires (omega arith) c.type_inv.bytes c.first_set.ensures _ (zip2_splat {Y = ℕ} _ v 16 space long) refl
