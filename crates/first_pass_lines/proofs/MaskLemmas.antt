-- The mask of one load has a bit for each byte that fails a test.
use Rattle.std.proofs.Common.{◌≡◌, ℕ, ◌+◌, ◌%◌, ◌^◌, ◌<◌, ◌≤◌, ◌==◌, Bool, true, false, not, cond, List, map, length, get_or, Fits, w8, refl, sym, ap, ◌∙◌}
use Rattle.std.proofs.Common.{subst, arith}
use Rattle.first_pass_lines.proofs.Common.{agree_below, agree_below_at, get_or-map, length-map, map-map, mask_l-mod, mask_l-lt, bit_mask_l, length-chunk}
use Rattle.first_pass_lines.proofs.Common.{get_or-chunk}
use Rattle.std.specs.Int.{bit_at}
use lib.Lanes.{chunk, mask_l, top}

-- the mask of lanes that were computed from 64 bytes or fewer
pub mask_is : (d : List ℕ) (i n : ℕ) (z : List ℕ) → i + n ≤ length d → n ≤ 64 → (f : ℕ → ℕ) → z ≡ map f (chunk i n d)
    → mask_l (map (top 7) z) % 2 ^ 64 ≡ mask_l (map (λ x. top 7 (f x)) (chunk i n d))
mask_is d i n z room bound f lanes =
    let v : List ℕ = chunk i n d in
    let stops : ℕ → Bool = λ x. top 7 (f x) in
    ap (λ l. mask_l l % 2 ^ 64) (ap (map (top 7)) lanes ∙ map-map (top 7) f v)
    ∙ mask_l-mod (map stops v) 64 (omega (arith, bound, length-map v stops, length-chunk i n d room))

clear_is : (test stop : Bool) → stop ≡ not test → test ≡ (cond stop 1 0 == 0)
clear_is true stop e = rw e refl
clear_is false stop e = rw e refl

module _ (q : ℕ → Bool) (d : List ℕ) (i n : ℕ) (z : List ℕ) (room : i + n ≤ length d) (bound : n ≤ 64)
    (fits : (k : ℕ) → Fits w8 (get_or d k 0)) (f : ℕ → ℕ) (lanes : z ≡ map f (chunk i n d)) where
  abbrev stops : ℕ → Bool
  stops x = top 7 (f x)

  long : length (chunk i n d) ≡ n
  long = length-chunk i n d room

  mask : mask_l (map (top 7) z) % 2 ^ 64 ≡ mask_l (map stops (chunk i n d))
  mask = mask_is d i n z room bound f lanes

  -- only the bits of these lanes can be set
  pub mask_within : mask_l (map (top 7) z) % 2 ^ 64 < 2 ^ n
  mask_within = grind (arith, mask, length-map, long, mask_l-lt)

  -- the bit of a lane is clear exactly if its byte passes q
  pub mask_stops : agree_below stops (λ x. not (q x)) 256 ≡ true
      → (k : ℕ) → k < n → q (get_or d (i + k) 0) ≡ (bit_at (mask_l (map (top 7) z) % 2 ^ 64) k == 0)
  mask_stops all k within =
      let v = chunk i n d in
      let at = get_or-map stops v k 0 false (omega (arith, long)) ∙ ap stops (get_or-chunk i n d k 0 within) in
      clear_is _ _ (agree_below_at stops (λ x. not (q x)) 256 (get_or d (i + k) 0) all (fits (i + k)).fits)
      ∙ ap (λ b. cond b 1 0 == 0) (sym at) ∙ ap (λ b. b == 0) (sym (ap (λ m. bit_at m k) mask ∙ bit_mask_l (map stops v) k))
