use Rattle.std.proofs.Common.{sym, ap, ◌∙◌}
use Rattle.first_pass_grammar.proofs.Common.{place_at, line_end, taken_columns, columns_line_end}
use Rattle.first_pass_leaves.proofs.fenced_code.FenceJudgesLines.judge.Goals as goal

pub returns-clause-place : goal.returns-clause-place
returns-clause-place c =
    taken_columns c.args.text.now c.args.self.now.indent c.args.line.now.start _ _ c.utf8.text c.scan_space_upto.ensures.rest c.requires.place

pub returns-clause-next : goal.returns-clause-next
returns-clause-next c =
    c.requires.next ∙ sym (ap (λ r. line_end (place_at c.args.line.now.start r)) c.scan_space_upto.ensures.rest
    ∙ columns_line_end c.args.self.now.indent (place_at c.args.line.now.start c.args.line_start.now))
