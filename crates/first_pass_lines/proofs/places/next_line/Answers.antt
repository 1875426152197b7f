use Rattle.std.proofs.Common.{◌≡◌, drop, ap, ◌∙◌, arith}
use Rattle.first_pass_lines.proofs.Common.{line_len}
use Rattle.first_pass_lines.proofs.LineFacts.{line_len-within, lines_at-line, lines_at-end}
use Rattle.first_pass_lines.proofs.places.next_line.Goals as goal

pub returns-clause-later : goal.returns-clause-later
returns-clause-later c = λ h.
    let n : c.scan_nextline.result ≡ line_len (drop c.args.start c.args.text.now) = c.scan_nextline.ensures.value ∙ ap line_len c.rest_of.ensures.value in
    let some = line_len-within c.args.text.now c.args.start h in
    omega arith

pub returns-clause-lines : goal.returns-clause-lines
returns-clause-lines c = λ h.
    let n : c.scan_nextline.result ≡ line_len (drop c.args.start c.args.text.now) = c.scan_nextline.ensures.value ∙ ap line_len c.rest_of.ensures.value in
    rw n (lines_at-line c.args.text.now c.args.start h)

pub returns-clause-none : goal.returns-clause-none
returns-clause-none c = λ h. lines_at-end c.args.text.now c.args.start (omega arith)
