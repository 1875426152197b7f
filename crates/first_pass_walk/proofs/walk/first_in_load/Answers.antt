use Rattle.std.proofs.Common.{◌≡◌, ℕ, ◌+◌, ◌-◌, w64, bit_and, false, ap, ◌∙◌, arith}
use Rattle.first_pass_walk.proofs.Common.{bit_at-lt, bit_at_and, bit_at-trailing_zeros, bit_at, trailing_zeros, cases_eq, is_marked, IfSome_then}
use Rattle.first_pass_walk.proofs.StopLemmas.{if_none, bit_below, cleared, none_marked, first_is_next}
use Rattle.first_pass_walk.proofs.walk.first_in_load.Goals as goal
use Rattle.first_pass_walk.proofs.walk.first_in_load.Goals.{After-first_at_stops}

-- the bits of the other stops
is_set : (n k : ℕ) → bit_at (bit_and n (n - 1)) k ≡ 1 → bit_at n k ≡ 1
is_set n k set = omega (arith, set, bit_at_and n (n - 1) k, bit_at-lt n k)

-- the first stop is not marked, so a stop is marked only if it is another one
unmarked : (c : After-first_at_stops) (k : ℕ) → bit_at c.args.stops k ≡ 1
    → (bit_at (bit_and c.args.stops (c.args.stops - 1)) k ≡ 1 → is_marked c.args.lut.now c.args.bytes.now (c.args.at + k) ≡ false)
    → is_marked c.args.lut.now c.args.bytes.now (c.args.at + k) ≡ false
unmarked c k set other = grind (arith, cases_eq, cleared, bit_at-lt)

pub bounds-bytes-first : goal.bounds-bytes-first
bounds-bytes-first c =
    let small = c.requires.stops.within in
    let low = bit_at-trailing_zeros w64 c.args.stops c.requires.some (omega arith) in
    let near = bit_below c.args.stops 16 (trailing_zeros w64 c.args.stops) small low.1 in
    omega (arith, near, c.requires.within)

pub returns-then-lut-bytes-clause-found : goal.returns-then-lut-bytes-clause-found
returns-then-lut-bytes-clause-found c =
    let small = c.requires.stops.within in
    let low = bit_at-trailing_zeros w64 c.args.stops c.requires.some (omega arith) in
    let lowest : ℕ = trailing_zeros w64 c.args.stops in
    let near = bit_below c.args.stops 16 lowest small low.1 in
    let back : c.args.at + lowest - c.args.at ≡ lowest = omega arith in
    first_is_next c.args.lut.now c.args.bytes.now c.args.at 16 c.args.stops c.requires.spares c.requires.stops (c.args.at + lowest) (record {
      from = omega arith;
      within = omega (arith, near, c.requires.within);
      set = ap (bit_at c.args.stops) back ∙ low.1;
      marked = c.if-lut-bytes.true;
      least = λ k lower set. absurd (omega (arith, set, low.2 k (omega (arith, lower))));
    })

pub first_at_stops-requires-clause-within : goal.first_at_stops-requires-clause-within
first_at_stops-requires-clause-within c k set =
    omega (arith, c.requires.within, bit_below c.args.stops 16 k c.requires.stops.within (is_set c.args.stops k set))

pub returns-clause-found : goal.returns-clause-found
returns-clause-found c =
    let at : After-first_at_stops = (goal.at.returns-clause-found c).After-first_at_stops in
    IfSome_then c.first_at_stops.result c.first_at_stops.ensures.found
    (λ j first. first_is_next c.args.lut.now c.args.bytes.now c.args.at 16 c.args.stops c.requires.spares c.requires.stops j (record {
      from = first.from;
      within = first.within;
      set = is_set c.args.stops (j - c.args.at) first.set;
      marked = first.marked;
      least = λ k lower set. unmarked at k set (first.least k lower);
    }))

pub returns-clause-none : goal.returns-clause-none
returns-clause-none c =
    let at : After-first_at_stops = (goal.at.returns-clause-none c).After-first_at_stops in
    if_none c.first_at_stops.result
    (λ none. none_marked c.args.lut.now c.args.bytes.now c.args.at 16 c.args.stops c.requires.spares c.requires.stops
    (λ k set. unmarked at k set (none k)))
    c.first_at_stops.ensures.none
