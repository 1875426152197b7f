use Rattle.std.proofs.Common.{sym, ap, subst, drop, is_some, ◌∙◌, ◌+◌, IsUtf8}
use Rattle.first_pass_grammar.proofs.Common.{at_line_end, begins_plain}
use Rattle.first_pass_kinds.proofs.Common.{More, text_place, path_of, context_of}
use Rattle.first_pass_kinds.proofs.PlainLines.{plain_more}
use Rattle.first_pass_kinds.proofs.FirstBytes.{plain_first, eol_first}
use Rattle.first_pass_kinds.proofs.interrupt.scan_next_line.Goals as goal

pub returns-then-is_plain_front-clause-value : goal.returns-then-is_plain_front-clause-value
returns-then-is_plain_front-clause-value c =
    plain_first (context_of c.args.source.now.options c.args.tree.now) c.args.start (drop c.args.start c.args.source.now.text.now)
    (ap begins_plain (sym (c.rest_of-bytes.ensures.value ∙ ap (drop c.args.start) c.as_bytes.ensures.value))
    ∙ sym c.is_plain_front.ensures ∙ c.if-is_plain_front.true)

pub returns-then-is_plain_front-clause-place : goal.returns-then-is_plain_front-clause-place
returns-then-is_plain_front-clause-place c =
    (text_place c.args.source.now.text.now c.args.start (path_of c.args.source.now.options c.args.tree.now)
    (subst IsUtf8 c.as_bytes.ensures.value c.as_bytes.ensures.utf8) c.requires).0

pub returns-then-is_some-clause-value : goal.returns-then-is_some-clause-value
returns-then-is_some-clause-value c =
    eol_first (context_of c.args.source.now.options c.args.tree.now) c.args.start (drop c.args.start c.args.source.now.text.now)
    (ap at_line_end (sym (c.rest_of-bytes.ensures.value ∙ ap (drop c.args.start) c.as_bytes.ensures.value))
    ∙ ap is_some (sym c.scan_eol.ensures.value) ∙ sym c.is_some.ensures ∙ c.if-is_some.true)

pub returns-then-is_some-clause-place : goal.returns-then-is_some-clause-place
returns-then-is_some-clause-place c =
    (text_place c.args.source.now.text.now c.args.start (path_of c.args.source.now.options c.args.tree.now)
    (subst IsUtf8 c.as_bytes.ensures.value c.as_bytes.ensures.utf8) c.requires).0

pub returns-then-is_plain_front-2-clause-value : goal.returns-then-is_plain_front-2-clause-value
returns-then-is_plain_front-2-clause-value c =
    ap (λ n. More (c.args.start + n)) c.bytes_scanned.ensures
    ∙ plain_more (context_of c.args.source.now.options c.args.tree.now) c.args.start _ c.scan_unindented-text.result.rest c.scan_unindented-text.ensures.rest
    (ap begins_plain (sym c.left.ensures) ∙ sym c.is_plain_front-2.ensures ∙ c.if-is_plain_front-2.true)
