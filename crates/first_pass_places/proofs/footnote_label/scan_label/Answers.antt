use Rattle.std.proofs.Common.{sym, ◌∙◌, arith}
use Rattle.first_pass_grammar.proofs.Common.{is_bracket}
use Rattle.first_pass_links.proofs.Destinations.{passed_unit, upto_stopped, upto_ended}
use Rattle.first_pass_places.proofs.FootnotePlaces.{bracket_byte}
use Rattle.first_pass_places.proofs.footnote_label.scan_label.Goals as goal

pub loop-at-preserved : goal.loop-at-preserved
loop-at-preserved c =
    passed_unit is_bracket c.args.bytes.now _ c.loop-at.at c.unit_len-at.result c.loop-at.invariant c.loop-at-test.true c.rest_of.ensures.value
    c.unit_len-at.ensures.within c.unit_len-at.ensures.value (sym c.is_bracket.ensures ∙ c.if-not-is_bracket.true)

pub returns-else-not-is_bracket-clause-value : goal.returns-else-not-is_bracket-clause-value
returns-else-not-is_bracket-clause-value c =
    let s = sym c.is_bracket.ensures ∙ c.if-not-is_bracket.false in
    omega (arith, upto_stopped is_bracket c.args.bytes.now c.loop-at.at c.loop-at-test.true s (bracket_byte _ s), c.loop-at.invariant.passed)

pub returns-after-loop-at-clause-value : goal.returns-after-loop-at-clause-value
returns-after-loop-at-clause-value c =
    omega (arith, upto_ended is_bracket c.args.bytes.now c.loop-at.at (omega arith), c.loop-at.invariant.passed)
