use Rattle.std.proofs.Common.{◌≡◌, ℕ, ◌==◌, true, false, sym, ◌∙◌, arith}
use Rattle.std.proofs.lemmas.Bool.Decides.{nat_tests}
use Rattle.first_pass_items.specs.Bytes.{backslash}
use Rattle.first_pass_links.specs.Labels.{is_bracket}
use Rattle.first_pass_links.proofs.Destinations.{passed_unit, upto_stopped, upto_ended}
use Rattle.first_pass_targets.proofs.label.label_len.Goals as goal

pub loop-at-preserved : goal.loop-at-preserved
loop-at-preserved c =
    passed_unit is_bracket c.args.bytes.now _ c.loop-at.at c.unit_len-at.result c.loop-at.invariant c.loop-at-test.true c.rest_of.ensures.value
    c.unit_len-at.ensures.within c.unit_len-at.ensures.value (sym c.is_bracket.ensures ∙ c.if-not-is_bracket.true)

no_backslash : (b : ℕ) → is_bracket b ≡ true → (b == backslash) ≡ false
no_backslash b h = grind (arith, nat_tests, h)

pub returns-else-not-is_bracket-clause-value : goal.returns-else-not-is_bracket-clause-value
returns-else-not-is_bracket-clause-value c = grind (arith, upto_stopped, no_backslash)

pub returns-after-loop-at-clause-value : goal.returns-after-loop-at-clause-value
returns-after-loop-at-clause-value c = grind (arith, upto_ended)
