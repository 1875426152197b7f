use Rattle.std.proofs.Common.{◌≡◌, true, false, drop, ap, sym, ◌∙◌, arith}
use Rattle.first_pass_scan.specs.Metadata.{closes_metadata}
use Rattle.first_pass_scan.specs.MetadataSearch.{closing_line_from}
use Rattle.first_pass_scan.proofs.MetadataFacts.{closing_line-here, closing_line-further, closing_line-end}
use Rattle.first_pass_scan.proofs.metadata_scan.scan_closing_line.Goals as goal

pub loop-at-preserved : goal.loop-at-preserved
loop-at-preserved c =
    let text = c.args.text.now in
    let byte = c.args.byte in
    let e : false ≡ closes_metadata byte (drop c.loop-at.at text) = cc in
    record {
      within = c.next_line-at.ensures.within;
      rest = ap (closing_line_from byte text) c.next_line-at.ensures.value ∙ sym (closing_line-further byte text c.loop-at.at (omega arith) (sym e))
          ∙ c.loop-at.invariant.rest;
    }

pub returns-then-is_some : goal.returns-then-is_some
returns-then-is_some c =
    let text = c.args.text.now in
    let byte = c.args.byte in
    let e : true ≡ closes_metadata byte (drop c.loop-at.at text) = cc in
    sym (closing_line-here byte text c.loop-at.at (omega arith) (sym e)) ∙ c.loop-at.invariant.rest

pub returns : goal.returns
returns c =
    let end = closing_line-end c.args.byte c.args.text.now c.loop-at.at (omega arith) in
    omega (arith, end, c.loop-at.invariant.rest)
