use Rattle.std.proofs.Common.{ℕ, ◌+◌, ◌-◌, ◌/◌, ◌^◌, length, sym, ap, ◌∙◌, arith}
use Rattle.first_pass_walk.proofs.Common.{bit_at-zero, bit_at, IfSome_then}
use Rattle.first_pass_walk.proofs.StopLemmas.{if_none, bit_below, shifted_bit, tail_stops, unmarked_from, none_marked, first_is_next, next_later}
use Rattle.first_pass_walk.proofs.walk.next_special_in_words.Goals as goal

-- a load of 16 bytes
pub returns-in-Some-clause-found : goal.returns-in-Some-clause-found
returns-in-Some-clause-found c = grind (arith, next_later)

-- no byte of a load without stops is marked
pub loop-next-preserved-then-stops-eq0 : goal.loop-next-preserved-then-stops-eq0
loop-next-preserved-then-stops-eq0 c = record {
  from = omega arith;
  none = unmarked_from c.args.lut.now c.args.bytes.now c.args.ix c.loop-next.next (c.loop-next.next + 16) c.loop-next.invariant.none
      (none_marked c.args.lut.now c.args.bytes.now c.loop-next.next 16 c.word_stops-stops.result c.requires c.word_stops-stops.ensures
      (λ k set. absurd (omega (arith, set, ap (λ n. bit_at n k) c.if-stops-eq0.true, bit_at-zero k))));
}

pub loop-next-preserved : goal.loop-next-preserved
loop-next-preserved c = grind (arith, unmarked_from)

-- the last load
pub first_at_stops-requires-clause-within : goal.first_at_stops-requires-clause-within
first_at_stops-requires-clause-within c k set =
    let before : ℕ = c.loop-next.next - (length c.args.bytes.now - 16) in
    omega (arith, bit_below c.word_stops.result 16 (before + k) c.word_stops.ensures.within (sym (shifted_bit c.word_stops.result before k) ∙ set))

pub returns-clause-found : goal.returns-clause-found
returns-clause-found c =
    let next : ℕ = c.loop-next.next in
    let last : ℕ = length c.args.bytes.now - 16 in
    let stops = tail_stops c.args.bytes.now next last c.word_stops.result (omega arith) (omega arith) c.word_stops.ensures in
    IfSome_then c.first_at_stops.result c.first_at_stops.ensures.found
    (λ j first. next_later c.args.lut.now c.args.bytes.now c.args.ix next j c.loop-next.invariant.from c.loop-next.invariant.none
    (first_is_next c.args.lut.now c.args.bytes.now next (last + 16 - next) (c.word_stops.result / 2 ^ (next - last)) c.requires stops j first))

pub returns-clause-none : goal.returns-clause-none
returns-clause-none c =
    let next : ℕ = c.loop-next.next in
    let last : ℕ = length c.args.bytes.now - 16 in
    let stops = tail_stops c.args.bytes.now next last c.word_stops.result (omega arith) (omega arith) c.word_stops.ensures in
    if_none c.first_at_stops.result
    (λ none k from less. unmarked_from c.args.lut.now c.args.bytes.now c.args.ix next (length c.args.bytes.now) c.loop-next.invariant.none
    (λ i at in_text. none_marked c.args.lut.now c.args.bytes.now next (last + 16 - next) (c.word_stops.result / 2 ^ (next - last)) c.requires stops none
    i at (omega (arith, in_text))) k from less)
    c.first_at_stops.ensures.none
