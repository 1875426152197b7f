use Rattle.std.proofs.Common.{◌≡◌, ℕ, ◌==◌, true, false, sym, ◌∙◌, arith}
use Rattle.std.proofs.lemmas.Bool.Decides.{nat_tests}
use Rattle.first_pass_items.specs.Bytes.{backslash}
use Rattle.first_pass_links.specs.Labels.{ends_line_label}
use Rattle.first_pass_links.proofs.Destinations.{passed_unit, upto_stopped, upto_ended}
use Rattle.first_pass_links.proofs.label.scan_label_end.Goals as goal

pub loop-at-preserved : goal.loop-at-preserved
loop-at-preserved c =
    passed_unit ends_line_label c.args.bytes.now _ c.loop-at.at c.unit_len-at.result c.loop-at.invariant c.loop-at-test.true c.rest_of.ensures.value
    c.unit_len-at.ensures.within c.unit_len-at.ensures.value (sym c.ends_line_label.ensures ∙ c.if-not-ends_line_label.true)

no_backslash : (b : ℕ) → ends_line_label b ≡ true → (b == backslash) ≡ false
no_backslash b h = grind (arith, nat_tests, h)

pub returns-else-not-ends_line_label-clause-value : goal.returns-else-not-ends_line_label-clause-value
returns-else-not-ends_line_label-clause-value c = grind (arith, upto_stopped, no_backslash)

pub returns-after-loop-at-clause-value : goal.returns-after-loop-at-clause-value
returns-after-loop-at-clause-value c = grind (arith, upto_ended)
