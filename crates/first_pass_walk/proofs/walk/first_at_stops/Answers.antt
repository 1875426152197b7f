use Rattle.std.proofs.Common.{◌≡◌, ℕ, ◌+◌, ◌-◌, w64, inl, inr, ap, ◌∙◌, arith}
use Rattle.first_pass_walk.proofs.Common.{bit_at-lt, bit_at_and, bit_at-trailing_zeros, bit_at, trailing_zeros}
use Rattle.first_pass_walk.proofs.StopLemmas.{cleared}
use Rattle.first_pass_walk.proofs.walk.first_at_stops.Goals as goal

pub bounds-bytes-at : goal.bounds-bytes-at
bounds-bytes-at c =
    let low = bit_at-trailing_zeros w64 c.loop-left.left (omega arith) (omega arith) in
    c.requires.within (trailing_zeros w64 c.loop-left.left) (c.loop-left.invariant.within _ low.1)

pub returns-then-lut-bytes-clause-found : goal.returns-then-lut-bytes-clause-found
returns-then-lut-bytes-clause-found c =
    let low = bit_at-trailing_zeros w64 c.loop-left.left (omega arith) (omega arith) in
    let lowest : ℕ = trailing_zeros w64 c.loop-left.left in
    let back : c.args.from + lowest - c.args.from ≡ lowest = omega arith in
    let set : bit_at c.args.stops lowest ≡ 1 = c.loop-left.invariant.within lowest low.1 in
    record {
      from = omega arith;
      within = c.requires.within lowest set;
      set = ap (bit_at c.args.stops) back ∙ set;
      marked = c.if-lut-bytes.true;
      least = λ k lower is. c.loop-left.invariant.asked k is (low.2 k (omega (arith, lower)));
    }

pub loop-left-preserved : goal.loop-left-preserved
loop-left-preserved c = record {
  within = λ k set. c.loop-left.invariant.within k (omega (arith, set, bit_at_and c.loop-left.left (c.loop-left.left - 1) k, bit_at-lt c.loop-left.left k));
  asked = λ k set clear. elim (cleared c.loop-left.left (omega arith) (omega arith) k clear) [
    | inl already ↦ c.loop-left.invariant.asked k set already
    | inr lowest ↦ rw lowest c.if-lut-bytes.false
  ];
}
