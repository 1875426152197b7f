use Rattle.std.proofs.Common.{◌≤◌, arith}
use Rattle.first_pass_targets.proofs.PartFacts.{after_byte}
use Rattle.first_pass_targets.proofs.target.scan_target.Goals as goal
use Rattle.first_pass_targets.proofs.target.scan_target.Goals.{in-Some, in-None}

pub after_blanks-requires-clause-boundary : goal.after_blanks-requires-clause-boundary
after_blanks-requires-clause-boundary c = grind (arith, after_byte)

pub returns-clause-past : goal.returns-clause-past
returns-clause-past c =
    let o : c.in_ok-dest.dest.past ≤ c.match-title.end = elim c.match-title.branch [ in-Some w ↦ grind arith | in-None w ↦ grind arith ] in
    let l = c.after_blanks-close.ensures.later in
    (omega arith, grind (arith, after_byte))
