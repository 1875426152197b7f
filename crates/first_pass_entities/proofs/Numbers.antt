-- Bounds on the value of digits.
use Rattle.std.proofs.Common.{◌≡◌, ℕ, ◌+◌, ◌*◌, ◌<◌, ◌≤◌, ◌^◌, arith, pow-add}

-- one more digit adds at most six bits
pub six_bits : (v d i : ℕ) → v < 2 ^ (6 * i) → d ≤ 36 → v * 16 + d < 2 ^ (6 * (i + 1))
six_bits v d i h e =
    let p = pow-add 2 (6 * i) 6 in
    let q : 6 * (i + 1) ≡ 6 * i + 6 = omega arith in
    rw q (omega arith)
