use Rattle.std.proofs.Common.{◌+◌, ◌<◌, sym, ap, ◌∙◌, arith, slice_range}
use Rattle.first_pass_grammar.proofs.Common.{kept_len, no_braces, line_end_len, Inline, source}
use Rattle.first_pass_tokens.specs.Pieces.{content_in}
use Rattle.first_pass_leaves.proofs.PlainHeadings.{plain_heading, no_backslash, upto_all, upto_within}
use Rattle.first_pass_leaves.proofs.heading.scan_plain_heading.Goals as goal

pub line_end_len-requires : goal.line_end_len-requires
line_end_len-requires c =
    let w = upto_within c.args.content.whole.now c.as_bytes-bytes.result.now c.in_ok-found.found.«end» c.args.content.«end»
    (sym c.is_some.ensures ∙ c.if-is_some.false) c.as_bytes-bytes.ensures.value (c.in_ok-found.ensures.some no_braces).first.within in
    omega (arith, w)

pub kept_between-kept-requires-clause-order : goal.kept_between-kept-requires-clause-order
kept_between-kept-requires-clause-order c = let f = (c.in_ok-found.ensures.some no_braces).first.from in omega (arith, f)

pub returns-clause-plain : goal.returns-clause-plain
returns-clause-plain c =
    let s : Inline = source c.args.content no_braces in
    let text = upto_all c.args.content.whole.now c.as_bytes-bytes.result.now c.args.content.«end» (sym c.is_some.ensures ∙ c.if-is_some.false)
    c.as_bytes-bytes.ensures.value in
    let end = c.in_ok-found.found.«end» in
    let first = (c.in_ok-found.ensures.some no_braces).first in
    let w = first.within in
    let some : s.start < end = grind arith in
    plain_heading s end some (omega (arith, w)) (no_backslash s _ end c.requires.marks first some)
    c.in_ok-found.found.token_end c.kept_between-kept.result _ _ c.requires.no_cell
    (λ texts. c.in_ok-found.ensures.cell texts no_braces)
    (ap (λ n. end + n) (c.line_end_len.ensures.value c.args.content no_braces
    ∙ ap (λ t. line_end_len (content_in t c.args.content no_braces) end) (sym text)))
    (c.kept_between-kept.ensures.value ∙ ap (λ t. kept_len (slice_range t c.args.content.start (end + c.line_end_len.result))) (sym text))
    c.min-text_end.ensures
