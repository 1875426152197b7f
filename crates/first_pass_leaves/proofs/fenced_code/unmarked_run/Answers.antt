use Rattle.std.proofs.Common.{◌≡◌, ℕ, zero, suc, ◌||◌, ◌==◌, Bool, true, false, not, if◌then◌else◌, bit_or, refl, arith}
use Rattle.first_pass_leaves.proofs.Common.{is_unmarked, agree_below, beq, joined, run_in}
use Rattle.std.proofs.lemmas.Simd.{zip2_splat, length-chunk}
use lib.Lanes.{chunk, top}
use Rattle.first_pass_items.specs.Bytes.{carriage_return}
use Rattle.first_pass_leaves.proofs.fenced_code.unmarked_run.Goals as goal

-- two tests that agree at each number
agree_all : (f g : ℕ → Bool) (n : ℕ) → ((k : ℕ) → beq (f k) (g k) ≡ true) → agree_below f g n ≡ true
agree_all f g zero same = refl
agree_all f g (suc n) same = rw (same n) (agree_all f g n same)

-- a lane of two joined comparisons is set if one of them holds
joined_set : (p q : Bool) → beq (top 7 (bit_or (if p then 255 else 0) (if q then 255 else 0))) (not (not (p || q))) ≡ true
joined_set true true = refl
joined_set true false = refl
joined_set false true = refl
joined_set false false = refl

pub returns : goal.returns
returns c =
    let byte = c.args.fence_byte in
    let v = chunk c.args.at 16 c.args.bytes.now in
    let long = length-chunk c.args.at 16 c.args.bytes.now c.requires in
    run_in (is_unmarked byte) c.args.bytes.now c.args.at 16 _ _ c.requires (omega arith) c.type_inv.bytes c.first_set.ensures _
    (joined bit_or _ _ v (zip2_splat {Y = ℕ} _ v 16 byte long) (zip2_splat {Y = ℕ} _ v 16 carriage_return long))
    (agree_all _ _ 256 (λ k. joined_set (k == byte) (k == carriage_return)))
