use Rattle.std.proofs.Common.{Some, refl, sym, ap, ◌∙◌}
use Rattle.first_pass_grammar.proofs.Common.{Rest}
use Rattle.first_pass_containers.proofs.Openings.Indented.{quote_mark, quote_taken}
use Rattle.first_pass_containers.proofs.openers.scan_quote_mark.Goals as goal

pub returns-then-not-scan_blockquote_marker : goal.returns-then-not-scan_blockquote_marker
returns-then-not-scan_blockquote_marker c =
    rw (
      quote_taken c.args.line_start.now c.args.mark c.scan_blockquote_marker.new.self c.requires.0 c.scan_blockquote_marker.result c.requires.1
          c.scan_blockquote_marker.ensures,
      c.if-not-scan_blockquote_marker.true,
    ) (refl, refl)

pub returns : goal.returns
returns c =
    rw (
      quote_taken c.args.line_start.now c.args.mark c.scan_blockquote_marker.new.self c.requires.0 c.scan_blockquote_marker.result c.requires.1
          c.scan_blockquote_marker.ensures,
      c.if-not-scan_blockquote_marker.false,
    ) (
      ap Some (c.bytes_scanned-before.ensures ∙ ap (λ (q : Rest). q.taken) (sym (quote_mark c.args.line_start.now c.args.mark c.requires.0 c.requires.1))),
      refl,
    )
