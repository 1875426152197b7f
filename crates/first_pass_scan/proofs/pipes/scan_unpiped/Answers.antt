use Rattle.std.proofs.Common.{◌≡◌, ℕ, ◌+◌, ◌≤◌, List, length, map, replicate, bit_or, refl, arith}
use Rattle.std.proofs.lemmas.Simd.{zip2_splat, length-chunk}
use lib.Lanes.{chunk, zip2}
use Rattle.first_pass_items.specs.Bytes.{line_feed, carriage_return, pipe}
use Rattle.first_pass_lines.proofs.LaneLemmas.{run_in}
use Rattle.first_pass_lines.proofs.MaskLemmas.{mask_within}
use Rattle.first_pass_scan.specs.Pipes.{is_unpiped}
use Rattle.first_pass_scan.proofs.LowestBits.{none_set, lowest_set, lowest_within}
use Rattle.first_pass_scan.proofs.pipes.scan_unpiped.Goals as goal

-- the 16 lanes of the mask, computed lane by lane
lanes : (equal : ℕ → ℕ → ℕ) (bs : List ℕ) (at : ℕ) → at + 16 ≤ length bs
    → let against : ℕ → List ℕ = λ b. zip2 equal (chunk at 16 bs) (replicate 16 b) in
    zip2 bit_or (zip2 bit_or (against line_feed) (against carriage_return)) (against pipe)
    ≡ map (λ x. bit_or (bit_or (equal x line_feed) (equal x carriage_return)) (equal x pipe)) (chunk at 16 bs)
lanes equal bs at room = grind (arith, zip2_splat, length-chunk)

pub returns-then-mask-eq0-clause-run : goal.returns-then-mask-eq0-clause-run
returns-then-mask-eq0-clause-run c =
    run_in is_unpiped c.args.bytes.now c.args.at 16 _ _ c.requires (omega arith) c.type_inv.bytes (none_set _ 16 c.if-mask-eq0.true) _
    (lanes _ c.args.bytes.now c.args.at c.requires) refl

pub returns-else-mask-eq0-clause-within : goal.returns-else-mask-eq0-clause-within
returns-else-mask-eq0-clause-within c =
    let within = mask_within is_unpiped c.args.bytes.now c.args.at 16 _ c.requires (omega arith) c.type_inv.bytes _
    (lanes _ c.args.bytes.now c.args.at c.requires) in
    lowest_within _ 16 c.if-mask-eq0.false within (omega arith)

pub returns-else-mask-eq0-clause-run : goal.returns-else-mask-eq0-clause-run
returns-else-mask-eq0-clause-run c =
    run_in is_unpiped c.args.bytes.now c.args.at 16 _ _ c.requires (omega arith) c.type_inv.bytes (lowest_set _ 16 c.if-mask-eq0.false) _
    (lanes _ c.args.bytes.now c.args.at c.requires) refl
