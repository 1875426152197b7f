use Rattle.std.proofs.Common.{◌≡◌, ℕ, ◌+◌, List, arith, sym, ap, ◌∙◌, drop, subst, drop-drop}
use Rattle.first_pass_html.specs.TagLengths.{attribute_len}
use Rattle.first_pass_html.specs.Fronts.{IsPastAttributes}
use Rattle.first_pass_html.proofs.WholeTagFacts.{past_none, past_more}
use Rattle.first_pass_html.proofs.tags.scan_attributes.Goals as goal

pub loop-len-init : goal.loop-len-init
loop-len-init c = record { within = omega arith; past = λ a p. let z : 0 + a ≡ a = omega arith in rw z p }

pub loop-len-preserved : goal.loop-len-preserved
loop-len-preserved c =
    let rest : List ℕ = drop c.loop-len.at c.args.bytes.now in
    let n : ℕ = c.in-Some.len in
    let some = ap attribute_len (sym c.rest_of.ensures.value) ∙ sym c.scan_attribute.ensures.value ∙ c.in-Some.is in
    record {
      within = omega (arith, c.in-Some.ensures.within.1, c.rest_of.ensures.whole);
      past = λ a p.
          let z : c.loop-len.at + n + a ≡ c.loop-len.at + (n + a) = omega arith in
          rw z (c.loop-len.invariant.past (n + a) (past_more rest n a some (rw drop-drop p)));
    }

pub returns-clause-value : goal.returns-clause-value
returns-clause-value c =
    let z : c.loop-len.at + 0 ≡ c.loop-len.at = omega arith in
    let none = ap attribute_len (sym c.rest_of.ensures.value) ∙ sym c.scan_attribute.ensures.value ∙ c.in_default.is in
    subst (IsPastAttributes c.args.bytes.now) z (c.loop-len.invariant.past 0 (past_none (drop c.loop-len.at c.args.bytes.now) none))
