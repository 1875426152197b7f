use Rattle.std.proofs.Common.{ℕ, bit_and, bit_or, refl, arith}
use Rattle.first_pass_grammar.proofs.Common.{space, backslash}
use Rattle.std.proofs.lemmas.Simd.{zip2_splat, length-chunk}
use lib.Lanes.{chunk}
use Rattle.first_pass_lines.proofs.LaneLemmas.{joined, run_in}
use Rattle.first_pass_definitions.specs.Reading.{is_title_text}
use Rattle.first_pass_definitions.proofs.title.title_lanes.Goals as goal

pub returns : goal.returns
returns c =
    let v = chunk 0 16 c.args.bytes.now in
    let long = length-chunk 0 16 c.args.bytes.now c.requires in
    let marks = joined bit_and _ _ v (zip2_splat {Y = ℕ} _ v 16 42 long) (zip2_splat {Y = ℕ} _ v 16 space long) in
    run_in is_title_text c.args.bytes.now 0 16 _ _ c.requires (omega arith) c.type_inv.bytes c.first_set.ensures _
    (joined bit_or _ _ v marks (zip2_splat {Y = ℕ} _ v 16 backslash long)) refl
