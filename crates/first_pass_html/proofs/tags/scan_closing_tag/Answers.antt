use Rattle.std.proofs.Common.{sym, ap, ◌∙◌, arith}
use Rattle.first_pass_html.specs.TagLengths.{closing_end_len}
use Rattle.first_pass_html.proofs.WholeTagFacts.{closing_found, closing_needs_end}
use Rattle.first_pass_html.proofs.tags.scan_closing_tag.Goals as goal

pub returns-in_err-end-clause-none : goal.returns-in_err-end-clause-none
returns-in_err-end-clause-none c = grind (arith, closing_needs_end)

pub returns-clause-found : goal.returns-clause-found
returns-clause-found c =
    closing_found c.args.bytes.now c.in_ok-name.name c.in_ok-end.end (sym c.in_ok-name.ensures.value)
    (ap closing_end_len (sym c.rest_of.ensures.value) ∙ sym c.in_ok-end.ensures.value)
