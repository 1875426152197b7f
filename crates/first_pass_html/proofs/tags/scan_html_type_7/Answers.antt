use Rattle.std.proofs.Common.{sym, ap, ◌∙◌}
use Rattle.first_pass_lines.specs.Lines.{blank_len}
use Rattle.first_pass_html.proofs.WholeTagFacts.{tag_line_only, tag_line_none, tag_line_not_blank}
use Rattle.first_pass_html.proofs.tags.scan_html_type_7.Goals as goal

pub returns-in_err-len-clause-none : goal.returns-in_err-len-clause-none
returns-in_err-len-clause-none c = rw c.from_residual.ensures (λ m t. tag_line_none c.args.bytes.now m c.in_err-len.ensures.none t)

pub returns-in-Some-clause-only : goal.returns-in-Some-clause-only
returns-in-Some-clause-only c m t = tag_line_only c.args.bytes.now c.in_ok-len.len m c.in_ok-len.ensures.found t

pub returns-in-None-clause-none : goal.returns-in-None-clause-none
returns-in-None-clause-none c m t =
    tag_line_not_blank c.args.bytes.now c.in_ok-len.len m c.in_ok-len.ensures.found (ap blank_len (sym c.rest_of.ensures.value) ∙ sym c.in-None.ensures.value) t
