use Rattle.std.proofs.Common.{◌≡◌, ℕ, ◌==◌, true, false, arith}
use Rattle.std.proofs.lemmas.Bool.Decides.{nat_tests}
use Rattle.first_pass_items.specs.Bytes.{backslash}
use Rattle.first_pass_links.proofs.Destinations.{passed_unit, upto_stopped, upto_ended}
use Rattle.first_pass_grammar.specs.Definitions.{ends_title}
use Rattle.first_pass_targets.proofs.title.title_len.Goals as goal

pub loop-at-preserved : goal.loop-at-preserved
loop-at-preserved c = grind (arith, passed_unit)

no_backslash : (close b : ℕ) → (close == backslash) ≡ false → ends_title close b ≡ true → (b == backslash) ≡ false
no_backslash close b n h = grind (arith, nat_tests, n, h)

pub returns-else-not-ends_title-clause-value : goal.returns-else-not-ends_title-clause-value
returns-else-not-ends_title-clause-value c = grind (arith, upto_stopped, no_backslash)

pub returns-after-loop-at-clause-value : goal.returns-after-loop-at-clause-value
returns-after-loop-at-clause-value c = grind (arith, upto_ended)
