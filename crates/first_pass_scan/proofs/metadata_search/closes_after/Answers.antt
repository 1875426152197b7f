use Rattle.std.proofs.Common.{length, nat_lt, Option, IfSome, ap, subst, ◌∙◌, arith}
use Rattle.first_pass_scan.specs.declared.metadata_search.ClosingLine.{ClosingLine}
use Rattle.first_pass_scan.specs.MetadataSearch.{IsClosingLine}
use Rattle.first_pass_scan.proofs.MetadataFacts.{any_line-following, closing_line-same}
use Rattle.first_pass_scan.proofs.metadata_search.closes_after.Goals as goal

pub returns-clause-value : goal.returns-clause-value
returns-clause-value c =
    let text = c.args.text.now in
    let byte = c.args.byte in
    let found : ClosingLine = c.in-Some.found in
    let known : IsClosingLine byte text found = subst (λ (k : Option ClosingLine). IfSome k (IsClosingLine byte text)) c.in-Some.is c.requires.known in
    let first = known.first in
    let same = closing_line-same byte text found.from c.args.line c.next_line-from.result c.next_line-from.ensures.value (omega arith) (omega arith) in
    ap (λ k. nat_lt k (length text)) (first ∙ same) ∙ any_line-following byte text c.args.line c.next_line-from.result c.next_line-from.ensures.value

pub returns-2-clause-value : goal.returns-2-clause-value
returns-2-clause-value c =
    ap (λ k. nat_lt k (length c.args.text.now)) c.scan_closing_line-at.ensures
    ∙ any_line-following c.args.byte c.args.text.now c.args.line c.next_line-from.result c.next_line-from.ensures.value
