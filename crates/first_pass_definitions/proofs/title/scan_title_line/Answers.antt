use Rattle.std.proofs.Common.{◌+◌, ◌≤◌, length, sym, ◌∙◌, arith}
use Rattle.first_pass_links.proofs.Destinations.{passed_unit, upto_stopped, upto_ended}
use Rattle.first_pass_definitions.specs.Reading.{stops_title_line}
use Rattle.first_pass_definitions.proofs.Titles.{stop_low, upto_text}
use Rattle.first_pass_definitions.proofs.title.scan_title_line.Goals as goal

pub loop-at-preserved : goal.loop-at-preserved
loop-at-preserved c =
    let bs = c.args.bytes.now in
    let n = c.unit_len-at.result in
    let r = c.title_run-at.result in
    let unit = passed_unit (stops_title_line c.args.close) bs _ c.loop-at.at n c.loop-at.invariant c.loop-at-test.true c.rest_of.ensures.value
    c.unit_len-at.ensures.within c.unit_len-at.ensures.value (sym c.stops_title_line.ensures ∙ c.if-not-stops_title_line.true) in
    let left = c.rest_of-in-loop-at.ensures.whole in
    let inside = c.title_run-at.ensures.within in
    let within : c.loop-at.at + n + r ≤ length bs = omega (arith, unit.within) in
    let run = upto_text c.args.close bs _ (c.loop-at.at + n) r c.requires within c.rest_of-in-loop-at.ensures.value c.title_run-at.ensures.text in
    record { within = within; passed = run ∙ unit.passed }

pub returns-else-not-stops_title_line-clause-value : goal.returns-else-not-stops_title_line-clause-value
returns-else-not-stops_title_line-clause-value c =
    let s = sym c.stops_title_line.ensures ∙ c.if-not-stops_title_line.false in
    let e = upto_stopped (stops_title_line c.args.close) c.args.bytes.now c.loop-at.at c.loop-at-test.true s (stop_low c.args.close _ c.requires s).0 in
    omega (arith, e, c.loop-at.invariant.passed)

pub returns-after-loop-at-clause-value : goal.returns-after-loop-at-clause-value
returns-after-loop-at-clause-value c =
    omega (arith, upto_ended (stops_title_line c.args.close) c.args.bytes.now c.loop-at.at (omega arith), c.loop-at.invariant.passed)
