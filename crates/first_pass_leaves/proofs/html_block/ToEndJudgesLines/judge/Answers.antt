use Rattle.std.proofs.Common.{◌≡◌, ◌+◌, drop, if◌then◌else◌, ap, ◌∙◌}
use Rattle.first_pass_grammar.proofs.Common.{condition_of, Place, place_at, line_place, GoesOn, IsLast, holds_end, tag_judge}
use Rattle.first_pass_leaves.proofs.HtmlLemmas.{tag_here}
use Rattle.first_pass_leaves.proofs.html_block.ToEndJudgesLines.judge.Goals as goal
use Rattle.first_pass_leaves.proofs.html_block.ToEndJudgesLines.judge.Goals.{After-holds_end}

-- whether the line contains the end of the block
verdict : (c : After-holds_end) → tag_judge (condition_of c.args.self.now.html_end)
    (line_place c.args.line.now.start (drop c.args.line.now.start c.args.text.now))
    (place_at c.args.line.now.start c.args.line_start.now)
    ≡ (if c.holds_end.result then IsLast (place_at c.args.line.now.start c.args.line_start.now)
    else GoesOn (place_at c.args.line.now.start c.args.line_start.now))
verdict c =
    tag_here c.args.text.now (condition_of c.args.self.now.html_end) (line_place c.args.line.now.start (drop c.args.line.now.start c.args.text.now))
    (place_at c.args.line.now.start c.args.line_start.now)
    (c.args.line.now.start + c.bytes_scanned.result) c.args.line.now.«end» c.holds_end.result c.requires.place
    (ap (λ n. c.args.line.now.start + n) c.bytes_scanned.ensures) c.if-at-text.false c.requires.next
    (c.holds_end.ensures ∙ ap (holds_end (condition_of c.args.self.now.html_end)) c.range.ensures.value)

pub returns-then-holds_end-clause-verdict : goal.returns-then-holds_end-clause-verdict
returns-then-holds_end-clause-verdict c =
    let p : Place = place_at c.args.line.now.start c.args.line_start.now in
    verdict (goal.at.returns-then-holds_end-clause-verdict c).After-holds_end ∙ ap (λ t. if t then IsLast p else GoesOn p) c.if-holds_end.true

pub returns-else-holds_end-clause-verdict : goal.returns-else-holds_end-clause-verdict
returns-else-holds_end-clause-verdict c =
    let p : Place = place_at c.args.line.now.start c.args.line_start.now in
    verdict (goal.at.returns-else-holds_end-clause-verdict c).After-holds_end ∙ ap (λ t. if t then IsLast p else GoesOn p) c.if-holds_end.false
