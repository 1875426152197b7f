use Rattle.std.proofs.Common.{◌≡◌, ℕ, ◌+◌, List, drop, drop-drop, sym, ap, ◌∙◌, arith}
use Rattle.first_pass_atoms.specs.TagLengths.{attribute_len, attributes_len}
use Rattle.first_pass_atoms.proofs.AttributeFacts.{attributes_none, attributes_more}
use Rattle.first_pass_atoms.proofs.tags.scan_attributes.Goals as goal

pub loop-len-init : goal.loop-len-init
loop-len-init c = record { within = omega arith; value = omega arith }

pub loop-len-preserved : goal.loop-len-preserved
loop-len-preserved c =
    let bytes : List ℕ = c.args.bytes.now in
    let at : ℕ = c.loop-len.at in
    let n : ℕ = c.in-Some.len in
    let some = ap attribute_len (sym c.rest_of.ensures.value) ∙ sym c.scan_attribute.ensures.value ∙ c.in-Some.is in
    let more = attributes_more (drop at bytes) n some in
    let rest : attributes_len (drop n (drop at bytes)) ≡ attributes_len (drop (at + n) bytes) = ap attributes_len (drop-drop n at bytes) in
    record {
      within = omega (arith, c.in-Some.ensures.within.1, c.rest_of.ensures.whole);
      value = omega (arith, c.loop-len.invariant.value, more, rest);
    }

pub returns-clause-value : goal.returns-clause-value
returns-clause-value c =
    let none = ap attribute_len (sym c.rest_of.ensures.value) ∙ sym c.scan_attribute.ensures.value ∙ c.in_default.is in
    omega (arith, c.loop-len.invariant.value, attributes_none (drop c.loop-len.at c.args.bytes.now) none)
